-- The number and values of each answer.
-- Assumes nothing.
use Rattle.std.specs.Prelude.{ℕ, List, [], ◌∷◌, Result}
use Rattle.paper.specs.Paper.{Paper}
use Rattle.refusal.specs.Told.{told}
use Rattle.refusal.specs.declared.Refusal.{Refusal}
use Rattle.checksum.specs.declared.Verdict.{Verdict}
use Rattle.checksum.specs.declared.Verdict.TheVariants.{Valid, Invalid}

abbrev pub computed : Result ℕ Refusal → Paper
computed = told (λ n. n ∷ [])

-- S3: valid is told as 1, not valid as 0
abbrev pub verdict_number : Verdict → List ℕ
verdict_number Valid = 1 ∷ []
verdict_number Invalid = 0 ∷ []

abbrev pub verdict : Result Verdict Refusal → Paper
verdict = told verdict_number
