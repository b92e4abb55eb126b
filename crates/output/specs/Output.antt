-- What is answered of a buffer that is lent for output, and what it then holds (docs/RULES.md N9, T6, G4).
-- Assumes nothing.
use Rattle.std.specs.Prelude.{ℕ, Result, ◌+◌, ◌-◌, ◌*◌, cond, ◌≡◌, List, [], ◌∷◌, ◌++◌, ltb, eqb, length, take, drop}
use Rattle.paper.specs.Paper.{Paper, refuses, gives}
use Rattle.refusal.specs.declared.Refusal.{Refusal}
use Rattle.refusal.specs.Told.{told}

-- the place behind what was written, or why nothing was
abbrev pub written_told : Result ℕ Refusal → Paper
written_told answer = told (λ n. n ∷ []) answer

-- of n items that are so many bytes: refusal 9 with the bytes if fewer than n are left from the place on, else the place behind n
unfoldable pub room_in : {A : Type 0} → ℕ → ℕ → List A → ℕ → Paper
room_in needed n out at = cond (ltb (length out - at) n) (refuses 9 (needed ∷ [])) (gives ((at + n) ∷ []))

-- of n bytes
abbrev pub room_for : ℕ → List ℕ → ℕ → Paper
room_for n out at = room_in n n out at

-- of n numbers of four bytes each
abbrev pub numbers_for : ℕ → List ℕ → ℕ → Paper
numbers_for n out at = room_in (n * 4) n out at

-- items, as bytes or numbers, over those from a place on: what stands before them and behind them stays
unfoldable pub over : {A : Type 0} → List A → ℕ → List A → List A
over out at items = take at out ++ items ++ drop (at + length items) out

-- the buffer afterwards: as it was where the answer refuses, else with the items over it
abbrev pub leaves : {A : Type 0} → Paper → List A → ℕ → List A → List A
leaves answer out at items = cond (eqb answer.number 0) (over out at items) out

-- what a call whose bytes fit leaves, and the place behind them that it answers
pub record Wrote (out : List ℕ) (at : ℕ) (bytes left : List ℕ) (to : ℕ) : Type 0 where
  pub ends : to ≡ at + length bytes
  pub holds : left ≡ over out at bytes
