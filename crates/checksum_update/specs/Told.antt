-- The number and values of each answer.
-- Assumes nothing.
use Rattle.std.specs.Prelude.{ℕ, [], ◌∷◌, Result}
use Rattle.paper.specs.Paper.{Paper}
use Rattle.refusal.specs.Told.{told}
use Rattle.refusal.specs.declared.Refusal.{Refusal}

abbrev pub updated_told : Result ℕ Refusal → Paper
updated_told = told (λ n. n ∷ [])
