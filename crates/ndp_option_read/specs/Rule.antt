-- How an option is read by itself: the two rules that its readers share, each test in the order of docs/RULES.md O1 and O2.
-- Assumes nothing.
use Rattle.std.specs.Prelude.{ℕ, Bool, cond, not, ◌||◌, List, [], ◌∷◌, eqb, ltb, get_or, length, drop}
use Rattle.paper.specs.Paper.{Paper, refuses, gives}
use Rattle.refusal.specs.Told.{told}
use Rattle.ndp_option_header.specs.Header.{unit_bytes}
use Rattle.std.specs.Prelude.{Result}
use Rattle.refusal.specs.declared.Refusal.{Refusal}

-- of an option that is accepted its place: what it says is read beside
abbrev pub read_told : Result ℕ Refusal → Paper
read_told r = told (λ place. place ∷ []) r

abbrev differ : ℕ → ℕ → Bool
differ m n = not (eqb m n)

-- both bytes of the header
abbrev pub headed : ℕ → ℕ → List ℕ → Paper
headed id units s =
    cond (differ (get_or s 0 0) id || differ (get_or s 1 0) units) (refuses 8 (id ∷ get_or s 0 0 ∷ units ∷ get_or s 1 0 ∷ []))
    (gives [])

-- O1, an option of a fixed size: the size, then the header
unfoldable pub exactly_of : ℕ → ℕ → List ℕ → Paper
exactly_of id units s =
    cond (differ (length s) (unit_bytes units)) (refuses 5 (id ∷ unit_bytes units ∷ length s ∷ []))
    (headed id units s)

-- O2, an option of any size. Refusal 8 has the found units twice, since none are expected
unfoldable pub sized_of : ℕ → List ℕ → Paper
sized_of id s =
    cond (ltb (length s) 8) (refuses 5 (id ∷ 8 ∷ length s ∷ []))
    (cond (differ (get_or s 0 0) id) (refuses 8 (id ∷ get_or s 0 0 ∷ get_or s 1 0 ∷ get_or s 1 0 ∷ []))
    (cond (eqb (get_or s 1 0) 0) (refuses 6 (id ∷ []))
    (cond (differ (length s) (unit_bytes (get_or s 1 0))) (refuses 5 (id ∷ unit_bytes (get_or s 1 0) ∷ length s ∷ []))
    (gives []))))

-- x where nothing is refused
abbrev pub if_read : {A : Type 0} → Paper → A → A → A
if_read p x other = cond (eqb p.number 0) x other

-- the bytes from n on, none where the option is refused
abbrev pub part_from : ℕ → Paper → List ℕ → List ℕ
part_from n p s = if_read p (drop n s) []
