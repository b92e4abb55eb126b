-- The number and values of each case of the answers.
-- Assumes nothing.
use Rattle.std.specs.Prelude.{[], ◌∷◌}
use Rattle.paper.specs.Paper.{Paper, gives}
use Rattle.refusal.specs.Told.{told}
use Rattle.std.specs.Prelude.{Result, Option, Some, None, ℕ}
use Rattle.refusal.specs.declared.Refusal.{Refusal}

-- a place, or nothing
abbrev pub found_told : Option ℕ → Paper
found_told (Some p) = gives (p ∷ [])
found_told None = gives []

-- how many entries, or the refusal
abbrev pub indexed_told : Result ℕ Refusal → Paper
indexed_told = told (λ n. n ∷ [])

abbrev pub matched_told : Result (Unit {0}) Refusal → Paper
matched_told = told (λ _. [])

-- the list's bytes and the index's entries, or the refusal
abbrev pub grown_told : Result (ℕ × ℕ) Refusal → Paper
grown_told = told (λ n. n.0 ∷ n.1 ∷ [])
