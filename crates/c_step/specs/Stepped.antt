-- A step of the walk for C. On paper it is 0 End, 1 Stopped, 2 an option with kind, type, place in the options, length
-- and place in the packet, or a refusal.
-- Assumes nothing.
use Rattle.std.specs.Prelude.{ℕ, cond, List, eqb, get_or}
use Rattle.ndp_walk.specs.Step.{Told}
use Rattle.refusal.specs.Paper.{slots}
use Rattle.c_answer.specs.Answer.{REFUSED, OPTION, END, STOPPED, none}
use Rattle.c_step.specs.declared.Stepped.{Stepped}

-- an answer without an option
abbrev pub bare : ℕ → ℕ → List ℕ → ℕ → Stepped
bare answer refusal value next =
    record { answer = answer; refusal = refusal; value = value; kind = 0; option_type = 0; at = 0; length = 0; next = next; place = 0 }

abbrev pub with_option : List ℕ → ℕ → Stepped
with_option v next =
    record {
      answer = OPTION;
      refusal = 0;
      value = none;
      kind = get_or v 1 0;
      option_type = get_or v 2 0;
      at = get_or v 3 0;
      length = get_or v 4 0;
      next = next;
      place = get_or v 5 0;
    }

-- a step at a place; a walk that is over stays where it is
unfoldable pub stepped_for : ℕ → Told → Stepped
stepped_for at t =
    cond (eqb t.paper.number 0)
    (cond (eqb (get_or t.paper.values 0 0) 0) (bare END 0 none at)
    (cond (eqb (get_or t.paper.values 0 0) 1) (bare STOPPED 0 none at) (with_option t.paper.values t.place)))
    (bare REFUSED t.paper.number (slots t.paper.values) t.place)
