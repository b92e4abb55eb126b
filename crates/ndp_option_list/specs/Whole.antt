-- What the walk over a whole list at an offset comes to, in an edition.
-- Assumes nothing.
use Rattle.std.specs.Prelude.{ℕ, Bool, true, false, cond, List, [], ◌∷◌, eqb, length}
use Rattle.paper.specs.Paper.{Paper, gives, one_if}
use Rattle.packet_place.specs.Place.{is_far, far}
use Rattle.ndp_walk.specs.Walk.{Item}
use Rattle.ndp_walk.specs.Placed.{end_by}
use Rattle.ndp_options.specs.Walk.{walk_from}
use Rattle.ndp_options.specs.declared.Edition.{Edition}

-- bytes too far on: 22; a refused walk: its refusal with its place; a clean walk: an answer about its options
unfoldable pub whole_of : Edition → ℕ → List ℕ → (List Item → List ℕ) → Paper
whole_of e offset s about =
    cond (is_far offset (length s)) far
    (end_by (walk_from e offset s).ending (gives (about (walk_from e offset s).items)))

-- how many options
abbrev pub count_of : Edition → ℕ → List ℕ → Paper
count_of e offset s = whole_of e offset s (λ is. length is ∷ [])

-- whether an option of the type is among them
unfoldable pub occurs : ℕ → List Item → Bool
occurs type [] = false
occurs type (i ∷ is) = cond (eqb i.type type) true (occurs type is)

abbrev pub occurs_of : Edition → ℕ → ℕ → List ℕ → Paper
occurs_of e type offset s = whole_of e offset s (λ is. one_if (occurs type is) ∷ [])

-- the first that passes a test, in the numbers that tell of it; no numbers where none does
unfoldable pub first_by : {A : Type 0} → (A → Bool) → (A → List ℕ) → List A → List ℕ
first_by test tells [] = []
first_by test tells (x ∷ xs) = cond (test x) (tells x) (first_by test tells xs)

-- the first option of the type: its place and its length; no numbers where there is none, which is where `occurs` says no
abbrev pub first : ℕ → List Item → List ℕ
first type is = first_by (λ i. eqb i.type type) (λ i. i.at ∷ i.len ∷ []) is

abbrev pub first_of : Edition → ℕ → ℕ → List ℕ → Paper
first_of e type offset s = whole_of e offset s (λ is. first type is)

-- how many, and the first
abbrev pub tally_of : Edition → ℕ → ℕ → List ℕ → Paper
tally_of e type offset s = whole_of e offset s (λ is. length is ∷ first type is)
