-- The number and values of each case of the answers.
-- Assumes nothing.
use Rattle.std.specs.Prelude.{List, [], ◌∷◌, Result, Option, Some, None, ℕ, Bool}
use Rattle.paper.specs.Paper.{Paper, one_if}
use Rattle.refusal.specs.Told.{told}
use Rattle.refusal.specs.declared.Refusal.{Refusal}

-- 1 or 0, or the refusal
abbrev pub checked_told : Result Bool Refusal → Paper
checked_told = told (λ yes. one_if yes ∷ [])

-- its place in the list and its length; nothing where there is none
abbrev pub span : Option (ℕ × ℕ) → List ℕ
span (Some (place, len)) = place ∷ len ∷ []
span None = []

-- the same, or the refusal
abbrev pub message_told : Result (Option (ℕ × ℕ)) Refusal → Paper
message_told = told span
