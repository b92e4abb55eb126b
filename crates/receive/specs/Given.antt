-- The reasons that a packet of a type can be refused for.
-- Assumes nothing.
use Rattle.std.specs.Prelude.{ℕ, Bool, false, cond, ◌||◌, List, [], ◌∷◌, eqb}

-- 133 has no address or target that could be wrong, and past refusal 1 it has its eight bytes: neither 6 nor 7, and no 4. 134 has no target, and
-- asks nothing of an option; 136 and 137 ask nothing of an option. Other types: the checksum
abbrev pub given_for : ℕ → List ℕ
given_for type =
    cond (eqb type 133) (1 ∷ 2 ∷ 3 ∷ 5 ∷ 8 ∷ [])
    (cond (eqb type 134) (1 ∷ 2 ∷ 3 ∷ 4 ∷ 5 ∷ 6 ∷ [])
    (cond (eqb type 135) (1 ∷ 2 ∷ 3 ∷ 4 ∷ 5 ∷ 6 ∷ 7 ∷ 8 ∷ [])
    (cond (eqb type 136) (1 ∷ 2 ∷ 3 ∷ 4 ∷ 5 ∷ 6 ∷ 7 ∷ [])
    (cond (eqb type 137) (1 ∷ 2 ∷ 3 ∷ 4 ∷ 5 ∷ 6 ∷ 7 ∷ [])
    (2 ∷ [])))))

-- whether a number is in a list
abbrev pub among : ℕ → List ℕ → Bool
among n [] = false
among n (x ∷ l) = eqb n x || among n l
