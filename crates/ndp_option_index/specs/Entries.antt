-- The entries of an index (docs/RULES.md I1): which they are of a walk's options, how they stand as numbers, and what a lookup answers of them.
-- Assumes nothing.
use Rattle.std.specs.Prelude.{ℕ, Bool, false, cond, List, [], ◌∷◌, map, ltb, eqb, Option, None, Some}
use Rattle.paper.specs.Paper.{Paper, gives}
use Rattle.ndp_walk.specs.Walk.{Item}
use Rattle.ndp_option_list.specs.Whole.{first_by}

-- an entry: the type of an option and its place in the list
pub record Entry : Type 0 where
  pub type : ℕ
  pub at : ℕ

abbrev pub entry : ℕ → ℕ → Entry
entry type at = record { type = type; at = at }

-- of each option one, in order
abbrev pub entry_of : Item → Entry
entry_of i = entry i.type i.at

abbrev pub entries_of : List Item → List Entry
entries_of is = map entry_of is

-- two numbers an entry, type and place
unfoldable pub numbers_of : List Entry → List ℕ
numbers_of [] = []
numbers_of (e ∷ es) = e.type ∷ e.at ∷ numbers_of es

-- the entries that numbers are: a number that is left over at the end is none
unfoldable pub entries_in : List ℕ → List Entry
entries_in [] = []
entries_in (t ∷ []) = []
entries_in (t ∷ p ∷ l) = entry t p ∷ entries_in l

-- ---- lookups
-- of a type; and of a type, at a place that is above another
abbrev pub of_type : ℕ → Entry → Bool
of_type type e = eqb e.type type

abbrev pub behind : ℕ → ℕ → Entry → Bool
behind type after e = cond (eqb e.type type) (ltb after e.at) false

-- the place of the first entry that passes a test, or nothing
abbrev pub place_by : (Entry → Bool) → List Entry → Paper
place_by test es = gives (first_by test (λ e. e.at ∷ []) es)

-- the place of the first entry of a type
abbrev pub first_in : ℕ → List Entry → Paper
first_in type es = place_by (of_type type) es

-- the place of the first entry of a type whose place is above another
abbrev pub next_in : ℕ → ℕ → List Entry → Paper
next_in type after es = place_by (behind type after) es

-- which of the two is asked: of a type, or of a type and above a place
abbrev pub asked : ℕ → Option ℕ → Entry → Bool
asked type None = of_type type
asked type (Some after) = behind type after
