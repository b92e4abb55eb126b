-- The words in which the laws of the walk are said.
-- Assumes nothing.
use Rattle.std.specs.Prelude.{ℕ, ◌+◌, ◌≤◌, ◌<◌, ◌≡◌, Bool, true, false, cond, List, [], ◌∷◌, ◌++◌, eqb, length, get_or, take, drop}
use Rattle.paper.specs.Paper.{Paper}
use Rattle.ndp_option_header.specs.Header.{unit_bytes}
use Rattle.ndp_walk.specs.Judge.{Rule, Ruling, Fits, Misfits}
use Rattle.ndp_walk.specs.Walk.{Item, Ending, Clean, RefusedAt, Walk, item, then, walk, shift}

-- ---- one walk
-- each option begins where the one before it ends: from a place to a place
abbrev pub Touch : ℕ → List Item → ℕ → Type 0
Touch at [] to = at ≡ to
Touch at (i ∷ is) to = (i.at ≡ at) × Touch (at + i.len) is to

-- where a walk over s came to its end
abbrev pub end_place : List ℕ → Ending → ℕ
end_place s Clean = length s
end_place s (RefusedAt at why) = at

abbrev pub total : List Item → ℕ
total [] = 0
total (i ∷ is) = i.len + total is

-- an option's own bytes
abbrev pub bytes_in : List ℕ → Item → List ℕ
bytes_in s i = take i.len (drop i.at s)

-- an option of s: within the bytes, of the type that its first byte has, eight times its second byte long, and of the kind that the rule says
pub record Of (rule : Rule) (s : List ℕ) (i : Item) : Type 0 where
  pub within : i.at + i.len ≤ length s
  pub type : i.type ≡ get_or s i.at 0
  pub len : i.len ≡ unit_bytes (get_or s (i.at + 1) 0)
  pub least : 8 ≤ i.len
  pub kind : rule (bytes_in s i) ≡ Fits i.kind

-- the rule's refusals have a number above 0 (docs/RULES.md, area N)
abbrev pub Numbered : Rule → Type 0
Numbered rule = (o : List ℕ) (why : Paper) → rule o ≡ Misfits why → 0 < why.number

-- ---- whole options
abbrev pub kind_in : Ruling → ℕ
kind_in (Fits kind) = kind
kind_in (Misfits why) = 0

-- bytes that are one whole option
abbrev pub Whole : Rule → List ℕ → Type 0
Whole rule o = (0 < get_or o 1 0) × (length o ≡ unit_bytes (get_or o 1 0)) × (rule o ≡ Fits (kind_in (rule o)))

-- one after the other
abbrev pub concat : List (List ℕ) → List ℕ
concat [] = []
concat (o ∷ os) = o ++ concat os

abbrev pub placed : Rule → ℕ → List (List ℕ) → List Item
placed rule at [] = []
placed rule at (o ∷ os) = item (kind_in (rule o)) (get_or o 0 0) at (length o) ∷ placed rule (at + length o) os

-- ---- two lists joined: docs/RULES.md J1 to J5
-- whether a refusal means that bytes are missing (J5): 7, or the 5 whose list has one byte left
abbrev pub missing : Paper → Bool
missing p = cond (eqb p.number 7) true (cond (eqb p.number 5) (eqb (get_or p.values 2 0) 1) false)

-- what the walk over a ++ b is, by how the walk over a ended. Clean (J2): it goes on as b's. Bytes missing (J4): it goes on as the walk over
-- what a has left, with b behind it. Refused for another reason (J3): it is a's
abbrev pub joined_by : Rule → List ℕ → List ℕ → Ending → Walk
joined_by rule a b Clean = then (walk rule a).items (shift (length a) (walk rule b))
joined_by rule a b (RefusedAt at why) = cond (missing why) (then (walk rule a).items (shift at (walk rule (drop at a ++ b)))) (walk rule a)

abbrev pub joined : Rule → List ℕ → List ℕ → Walk
joined rule a b = joined_by rule a b (walk rule a).ending
