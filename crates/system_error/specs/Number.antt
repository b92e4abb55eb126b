-- Where std writes the number of an error behind its text.
-- Assumes nothing.
use Rattle.std.specs.Prelude.{ℕ, Bool, List, [], ◌∷◌, nat_eq, drop}
use Rattle.std.specs.List.{starts_with}

-- ` (os error `
abbrev pub mark : List ℕ
mark = 32 ∷ 40 ∷ 111 ∷ 115 ∷ 32 ∷ 101 ∷ 114 ∷ 114 ∷ 111 ∷ 114 ∷ 32 ∷ []

-- the mark stands at a place of a text
abbrev pub is_marked : List ℕ → ℕ → Bool
is_marked text i = starts_with nat_eq (drop i text) mark
