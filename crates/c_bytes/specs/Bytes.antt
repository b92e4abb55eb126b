-- An option that is read for its bytes, for C: those from a place of it to its end, and its own place in the packet. All of them are 0 where it is refused.
-- Assumes nothing.
use Rattle.std.specs.Prelude.{ℕ, ◌-◌, cond, List, eqb}
use Rattle.paper.specs.Paper.{Paper, value}
use Rattle.refusal.specs.Paper.{slots}
use Rattle.c_answer.specs.Answer.{REFUSED, BYTES, none}
use Rattle.c_bytes.specs.declared.Bytes.{Bytes}

abbrev pub bytes : ℕ → ℕ → List ℕ → ℕ → ℕ → ℕ → Bytes
bytes answer refusal value at length place =
    record { answer = answer; refusal = refusal; value = value; at = at; length = length; place = place }

-- from where its bytes are, how many bytes the option has, and its reader's answer
unfoldable pub bytes_for : ℕ → ℕ → Paper → Bytes
bytes_for from size p =
    cond (eqb p.number 0) (bytes BYTES 0 none from (size - from) (value 0 p))
    (bytes REFUSED p.number (slots p.values) 0 0 0)
