-- The answer of an update for C: the new field (docs/RULES.md X19, X20).
-- Assumes nothing.
use Rattle.std.specs.Prelude.{ℕ, cond, List, eqb, get_or}
use Rattle.paper.specs.Paper.{Paper}
use Rattle.refusal.specs.Paper.{slots}
use Rattle.c_answer.specs.Answer.{REFUSED, UPDATED, none}
use Rattle.c_updated.specs.declared.Updated.{Updated}

abbrev pub updated : ℕ → ℕ → List ℕ → ℕ → Updated
updated answer refusal value field = record { answer = answer; refusal = refusal; value = value; field = field }

abbrev pub updated_for : Paper → Updated
updated_for p =
    cond (eqb p.number 0) (updated UPDATED 0 none (get_or p.values 0 0))
    (updated REFUSED p.number (slots p.values) 0)
