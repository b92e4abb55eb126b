-- The words in which the laws of the index are said (docs/RULES.md I5, I9 to I14).
-- Assumes nothing.
use Rattle.std.specs.Prelude.{ℕ, ◌+◌, ◌*◌, ◌≤◌, ◌<◌, ◌≡◌, Bool, true, false, cond, List, [], ◌∷◌, ◌++◌, eqb, length, take}
use Rattle.paper.specs.Each.{Each}
use Rattle.paper.specs.Paper.{Paper, gives}
use Rattle.output.specs.Output.{over}
use Rattle.ndp_walk.specs.Walk.{Item}
use Rattle.ndp_options.specs.declared.Edition.{Edition}
use Rattle.ndp_option_index.specs.Entries.{Entry, entry_of}
use Rattle.ndp_option_index.specs.Index.{index_of, build_of}
use Rattle.ndp_option_index.specs.Append.{append_of, more_of}

-- ---- entries
-- from a place on, each further than the one before it
abbrev pub Rising : ℕ → List Entry → Type 0
Rising low [] = Unit {0}
Rising low (e ∷ es) = (low ≤ e.at) × Rising (e.at + 1) es

-- the places of a type's entries, in order
unfoldable pub places_of : ℕ → List Entry → List ℕ
places_of type [] = []
places_of type (e ∷ es) = cond (eqb e.type type) (e.at ∷ places_of type es) (places_of type es)

-- the first of these as a lookup answers it
abbrev pub head_of : List ℕ → Paper
head_of [] = gives []
head_of (p ∷ ps) = gives (p ∷ [])

-- a lookup that is asked again from each of its answers, until it answers nothing: the places that it gives
pub data Asked (next : ℕ → Paper) : Paper → List ℕ → Type 0 where
  last : Asked next (gives []) []
  on : {p : ℕ} {ps : List ℕ} → Asked next (next p) ps → Asked next (gives (p ∷ [])) (p ∷ ps)

-- ---- options
-- an option of a type, and one whose place is above another
abbrev pub OfType : ℕ → Item → Type 0
OfType type i = i.type ≡ type

abbrev pub Behind : ℕ → ℕ → Item → Type 0
Behind type after i = (i.type ≡ type) × (after < i.at)

-- none of the options is such a one
abbrev pub None : (Item → Type 0) → List Item → Type 0
None P is = Each (λ (i : Item). P i → ⊥) is

-- the first such option is at a place: none before it is such a one
pub record FirstAt (P : Item → Type 0) (is : List Item) (p : ℕ) : Type 0 where
  pub before : List Item
  pub here : Item
  pub behind : List Item
  pub are : is ≡ before ++ here ∷ behind
  pub skipped : None P before
  pub such : P here
  pub place : here.at ≡ p

-- a test of entries that tells such options
pub record Tells (test : Entry → Bool) (P : Item → Type 0) : Type 0 where
  pub yes : (i : Item) → test (entry_of i) ≡ true → P i
  pub no : (i : Item) → test (entry_of i) ≡ false → P i → ⊥

-- ---- lists and their indexes
-- what an accepted append leaves is what building from the joined list gives
pub record Afresh (ed : Edition) (list : List ℕ) (used : ℕ) (index : List ℕ) (n : ℕ) (new : List ℕ) (bytes options : ℕ) : Type 0 where
  pub joined : take bytes (over list used new) ≡ take used list ++ new
  pub built : (out : List ℕ) → options * 2 ≤ length out → build_of ed (take used list ++ new) out ≡ gives (options ∷ [])
  pub numbers : take (options * 2) (over index (n * 2) (more_of ed used new)) ≡ index_of ed (take used list ++ new)

-- a list and the numbers of an index that was built from it, or grown with it: what build_index and append leave in the two buffers where they accept
pub data Holds (ed : Edition) : List ℕ → List ℕ → Type 0 where
  built : (s out : List ℕ) (n : ℕ) → build_of ed s out ≡ gives (n ∷ []) → Holds ed s (take (n * 2) (over out 0 (index_of ed s)))
  appended : (list : List ℕ) (used : ℕ) (index : List ℕ) (n : ℕ) (new : List ℕ) {bytes options : ℕ} → append_of ed list used index n new ≡ gives (bytes ∷ options ∷ []) → Holds ed (take used list) (take (n * 2) index) → Holds ed (take bytes (over list used new)) (take (options * 2) (over index (n * 2) (more_of ed used new)))
