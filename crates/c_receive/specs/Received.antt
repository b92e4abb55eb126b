-- The receive check for C, and where the options of a packet are that passed it: at the place that the check hands on, which is the end of a
-- packet that has none, and from there to the end.
-- Assumes nothing.
use Rattle.std.specs.Prelude.{ℕ, ◌-◌, cond, List, eqb, length}
use Rattle.paper.specs.Paper.{Paper, value}
use Rattle.refusal.specs.Paper.{slots}
use Rattle.c_answer.specs.Answer.{REFUSED, RECEIVED, none}
use Rattle.c_receive.specs.declared.Received.{Received}

abbrev pub received : ℕ → ℕ → List ℕ → ℕ → ℕ → Received
received answer refusal value at len =
    record { answer = answer; refusal = refusal; value = value; options_at = at; options_length = len }

-- on paper an accepted packet is the place of its payload, that of its options, and its kind
unfoldable pub received_for : List ℕ → Paper → Received
received_for packet p =
    cond (eqb p.number 0) (received RECEIVED 0 none (value 1 p) (length packet - value 1 p))
    (received REFUSED p.number (slots p.values) 0 0)
