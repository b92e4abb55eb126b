-- The preference of a router advertisement for C: 0 medium, 1 high, 3 low, beside the numbers of the answer.
-- Assumes nothing.
use Rattle.std.specs.Prelude.{ℕ, cond, List, eqb, get_or}
use Rattle.paper.specs.Paper.{Paper}
use Rattle.refusal.specs.Paper.{slots}
use Rattle.c_answer.specs.Answer.{REFUSED, PREFERENCE, none}
use Rattle.c_preference.specs.declared.Preferred.{Preferred}

abbrev pub preference : ℕ → ℕ → List ℕ → ℕ → Preferred
preference answer refusal value n = record { answer = answer; refusal = refusal; value = value; preference = n }

unfoldable pub preference_for : Paper → Preferred
preference_for p =
    cond (eqb p.number 0) (preference PREFERENCE 0 none (get_or p.values 0 0))
    (preference REFUSED p.number (slots p.values) 0)
