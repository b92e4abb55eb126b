-- The number and values of each case of the answer, and the list that it is about.
-- Assumes nothing.
use Rattle.std.specs.Prelude.{ℕ, [], ◌∷◌, Result, Ok, Err}
use Rattle.paper.specs.Paper.{gives}
use Rattle.refusal.specs.Paper.{refusal}
use Rattle.ndp_option_compare.specs.Compare.{Told, told}
use Rattle.ndp_option_compare.specs.declared.CompareError.{CompareError}
use Rattle.ndp_option_compare.specs.declared.CompareError.TheVariants.{First, Second, Report}

abbrev pub error_told : CompareError → Told
error_told (First why) = told (refusal why) 1
error_told (Second why) = told (refusal why) 2
error_told (Report why) = told (refusal why) 0

abbrev pub compared_told : Result ℕ CompareError → Told
compared_told (Ok n) = told (gives (n ∷ [])) 0
compared_told (Err e) = error_told e
