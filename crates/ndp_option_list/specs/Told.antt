-- The number and values of each case of the answers.
-- Assumes nothing.
use Rattle.std.specs.Prelude.{ℕ, cond, List, [], ◌∷◌, Result, Option, Some, None, Bool, eqb}
use Rattle.paper.specs.Paper.{Paper, one_if}
use Rattle.refusal.specs.declared.Refusal.{Refusal}
use Rattle.refusal.specs.Told.{told}
use Rattle.ndp_option_list.specs.declared.Spot.{Spot}

-- its place and its length, nothing where there is none
abbrev pub spot_told : Option Spot → List ℕ
spot_told None = []
spot_told (Some x) = x.place ∷ x.len ∷ []

-- the same of what was found earlier, and else of an option of this type, place and length if it has the type
abbrev pub earlier_or : List ℕ → ℕ → ℕ → ℕ → ℕ → List ℕ
earlier_or [] wanted type place len = cond (eqb type wanted) (place ∷ len ∷ []) []
earlier_or (x ∷ l) wanted type place len = x ∷ l

-- the number of options, or the refusal
abbrev pub count_told : Result ℕ Refusal → Paper
count_told r = told (λ n. n ∷ []) r

-- 1 or 0, or the refusal
abbrev pub occurs_told : Result Bool Refusal → Paper
occurs_told r = told (λ b. one_if b ∷ []) r

-- its place and its length, nothing where there is none, or the refusal
abbrev pub first_told : Result (Option Spot) Refusal → Paper
first_told r = told spot_told r

abbrev pub tally_numbers : ℕ × Option Spot → List ℕ
tally_numbers (n, x) = n ∷ spot_told x

abbrev pub tally_told : Result (ℕ × Option Spot) Refusal → Paper
tally_told r = told tally_numbers r
