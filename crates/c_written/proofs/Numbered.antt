-- No refusal has the number 0 of an answer, under a name that code can give.
-- Assumes nothing.
use mathlib.Core.Bool.{false}
use mathlib.Core.Path.{◌≡◌}
use lib.Dec.{eqb}
use Rattle.refusal.specs.declared.Refusal.{Refusal}
use Rattle.refusal.specs.Paper.{refusal}
use Rattle.refusal.proofs.Paper.{refusal-numbered}

pub numbered : (why : Refusal) → eqb (refusal why).number 0 ≡ false
numbered = refusal-numbered
