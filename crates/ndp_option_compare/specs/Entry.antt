-- Two options side by side, and two lists of options (docs/RULES.md V2 to V4). An option is its bytes: its type is its first.
-- Assumes nothing.
use Rattle.std.specs.Prelude.{ℕ, suc, ◌+◌, Bool, cond, not, ◌&&◌, List, [], ◌∷◌, eqb, length, get_or}

-- how many leading bytes of two lists agree
unfoldable pub agree : List ℕ → List ℕ → ℕ
agree [] b = 0
agree (x ∷ a) [] = 0
agree (x ∷ a) (y ∷ b) = cond (eqb x y) (suc (agree a b)) 0

-- whether two lists are the same bytes
abbrev pub alike : List ℕ → List ℕ → Bool
alike a b = eqb (length a) (length b) && eqb (agree a b) (length a)

-- an entry: what it says, two places, and two numbers
abbrev pub entry : ℕ → ℕ → ℕ → ℕ → ℕ → List ℕ
entry what p q x y = what ∷ p ∷ q ∷ x ∷ y ∷ []

-- of two options at their places the first that applies: the same; the types differ; the lengths differ; a byte differs
unfoldable pub entry_of : ℕ → ℕ → List ℕ → List ℕ → List ℕ
entry_of p q a b =
    cond (alike a b) (entry 0 p q (get_or a 0 0) (length a))
    (cond (not (eqb (get_or a 0 0) (get_or b 0 0))) (entry 1 p q (get_or a 0 0) (get_or b 0 0))
    (cond (not (eqb (length a) (length b))) (entry 2 p q (length a) (length b))
    (entry 3 (p + agree a b) (q + agree a b) (get_or a (agree a b) 0) (get_or b (agree a b) 0))))

-- where the pairs end and one list goes on: the first, 1, or the second, 2
abbrev pub longer : ℕ → ℕ → ℕ → List ℕ
longer p q which = entry 4 p q which 0

-- the i-th option with the i-th, each list from a place on; and one entry more where one is longer
unfoldable pub entries_from : ℕ → ℕ → List (List ℕ) → List (List ℕ) → List (List ℕ)
entries_from p q [] [] = []
entries_from p q (a ∷ m) [] = longer p q 1 ∷ []
entries_from p q [] (b ∷ n) = longer p q 2 ∷ []
entries_from p q (a ∷ m) (b ∷ n) = entry_of p q a b ∷ entries_from (p + length a) (q + length b) m n

-- the leading options that are the same bytes in both
unfoldable pub leading : List (List ℕ) → List (List ℕ) → List (List ℕ)
leading [] n = []
leading (a ∷ m) [] = []
leading (a ∷ m) (b ∷ n) = cond (alike a b) (a ∷ leading m n) []
