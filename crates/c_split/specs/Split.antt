-- Plans for C. The checker: 1 on paper is ACCEPTED, 0 NOT_ACCEPTED. The planner: how many messages there are. Of a message: where its options are, and
-- NOT_ACCEPTED where the plan is not accepted or has no such message.
-- Assumes nothing.
use Rattle.std.specs.Prelude.{ℕ, cond, List, eqb, length}
use Rattle.paper.specs.Paper.{Paper, value}
use Rattle.refusal.specs.Paper.{slots}
use Rattle.c_answer.specs.Answer.{REFUSED, ACCEPTED, NOT_ACCEPTED, PLANNED, none}
use Rattle.c_split.specs.declared.Checked.{Checked}
use Rattle.c_split.specs.declared.Planned.{Planned}
use Rattle.c_split.specs.declared.Part.{Part}

abbrev pub checked : ℕ → ℕ → List ℕ → Checked
checked answer refusal value = record { answer = answer; refusal = refusal; value = value }

-- a refusal's number and its values
abbrev pub refused_for : Paper → Checked
refused_for p = checked REFUSED p.number (slots p.values)

unfoldable pub checked_for : Paper → Checked
checked_for p =
    cond (eqb p.number 0) (checked (cond (eqb (value 0 p) 1) ACCEPTED NOT_ACCEPTED) 0 none)
    (refused_for p)

abbrev pub planned : ℕ → ℕ → List ℕ → ℕ → Planned
planned answer refusal value messages = record { answer = answer; refusal = refusal; value = value; messages = messages }

unfoldable pub planned_for : Paper → Planned
planned_for p =
    cond (eqb p.number 0) (planned PLANNED 0 none (value 0 p))
    (planned REFUSED p.number (slots p.values) 0)

abbrev pub part : ℕ → ℕ → List ℕ → ℕ → ℕ → Part
part answer refusal value at length = record { answer = answer; refusal = refusal; value = value; at = at; length = length }

unfoldable pub part_for : Paper → Part
part_for p =
    cond (eqb p.number 0)
    (cond (eqb (length p.values) 0) (part NOT_ACCEPTED 0 none 0 0) (part ACCEPTED 0 none (value 0 p) (value 1 p)))
    (part REFUSED p.number (slots p.values) 0 0)
