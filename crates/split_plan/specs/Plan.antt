-- A plan for sending options in several messages: how many consecutive options go into the first message, into the second, and so on. Here for a list
-- of sizes, messages that have so many bytes of their own, and a limit to the bytes of a message (docs/RULES.md Z1, Z2, Z4, Z5, Z7).
-- Assumes nothing.
use Rattle.std.specs.Prelude.{ℕ, ◌+◌, ◌≤◌, ◌<◌, ◌≡◌, ◌⊎◌, Bool, true, false, cond, ◌&&◌, List, [], ◌∷◌, map, ltb, leb, eqb, length, take, drop}
use Rattle.paper.specs.Each.{Each}
use Rattle.ndp_walk.specs.Laws.{concat}

abbrev pub total : List ℕ → ℕ
total [] = 0
total (x ∷ xs) = x + total xs

-- ---- what an accepted plan is
-- a message's options, with what the message has of its own, are within the limit
abbrev pub Fits : ℕ → ℕ → List ℕ → Type 0
Fits own limit g = own + total g ≤ limit

-- a message has an option
abbrev pub Some : List ℕ → Type 0
Some g = 0 < length g

-- every message has one; only of no options the plan is one message with none
abbrev pub Filled : List ℕ → List (List ℕ) → Type 0
Filled [] groups = groups ≡ [] ∷ []
Filled (x ∷ xs) groups = Each Some groups

-- there are groups of sizes: joined they are the sizes, so that each is there once and in order; their counts are the plan; each fits; none is empty
-- unless there are no sizes at all
pub record Accepted (own limit : ℕ) (sizes plan : List ℕ) : Type 0 where
  pub groups : List (List ℕ)
  pub joined : concat groups ≡ sizes
  pub counts : map length groups ≡ plan
  pub fit : Each (Fits own limit) groups
  pub filled : Filled sizes groups

-- ---- the same as a test, along the plan
-- no count is 0, none is more than what is left, each message fits, and nothing is left over
unfoldable pub follows : ℕ → ℕ → List ℕ → List ℕ → Bool
follows own limit sizes [] = eqb (length sizes) 0
follows own limit sizes (n ∷ plan) =
    ltb 0 n && leb n (length sizes) && leb (own + total (take n sizes)) limit && follows own limit (drop n sizes) plan

-- one message with no option
abbrev pub bare : List ℕ → Bool
bare [] = false
bare (n ∷ []) = eqb n 0
bare (n ∷ m ∷ plan) = false

abbrev pub accepts : ℕ → ℕ → List ℕ → List ℕ → Bool
accepts own limit [] plan = leb own limit && bare plan
accepts own limit (x ∷ xs) plan = follows own limit (x ∷ xs) plan

-- ---- our plan
unfoldable pub each_fits : ℕ → ℕ → List ℕ → Bool
each_fits own limit [] = true
each_fits own limit (x ∷ xs) = leb (own + x) limit && each_fits own limit xs

-- whether there is any: a message with no option is within the limit, and so is each option in a message of its own
abbrev pub possible : ℕ → ℕ → List ℕ → Bool
possible own limit sizes = leb own limit && each_fits own limit sizes

-- whether the next option goes into the current message, of which so many bytes are used by so many options
abbrev pub goes_in : ℕ → ℕ → ℕ → ℕ → Bool
goes_in limit used n x = leb (used + x) limit

-- the plan of the sizes from the current message on: an option that fits goes in, and one that does not begins the next message
unfoldable pub plan_from : ℕ → ℕ → ℕ → ℕ → List ℕ → List ℕ
plan_from own limit used n [] = n ∷ []
plan_from own limit used n (x ∷ xs) =
    cond (goes_in limit used n x) (plan_from own limit (used + x) (n + 1) xs)
    (let rest : List ℕ = plan_from own limit (own + x) 1 xs in n ∷ rest)

-- each message filled in turn
abbrev pub plan_of : ℕ → ℕ → List ℕ → List ℕ
plan_of own limit sizes = plan_from own limit own 0 sizes

-- ---- where a message's options begin
-- behind those of the messages before it, which the plan counts
abbrev pub start_of : List ℕ → List ℕ → ℕ → ℕ
start_of sizes plan i = total (take (total (take i plan)) sizes)

-- ---- no plan at all
-- an option that fits no message
abbrev pub Long : ℕ → ℕ → ℕ → Type 0
Long own limit x = limit < own + x

-- one of the members has the property
abbrev pub Any : (ℕ → Type 0) → List ℕ → Type 0
Any P [] = ⊥
Any P (x ∷ xs) = P x ⊎ Any P xs
