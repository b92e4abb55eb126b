-- What the private functions answer of a list from a place on.
-- Assumes nothing.
use Rattle.std.specs.Prelude.{ℕ, suc, ◌+◌, ◌-◌, ◌≤◌, ◌≡◌, cond, List, length, take, drop, Option, Some, None}
use Rattle.packet_length.specs.Length.{limit}
use Rattle.ndp_walk.specs.Walk.{Clean}
use Rattle.ndp_options.specs.Walk.{walk_from}
use Rattle.ndp_options.specs.declared.Edition.{Edition}
use Rattle.split_plan.specs.Plan.{total, follows, each_fits, plan_of, start_of}
use Rattle.split_plan.specs.Filling.{Fills}
use Rattle.advertisement_split.specs.Split.{lengths, sizes_of, own_bytes}

-- the lengths of the options from a place on
unfoldable pub sizes_from : Edition → List ℕ → ℕ → List ℕ
sizes_from e s at = lengths (walk_from e at (drop at s)).items

-- a place of a list that is whole: the list is no longer than a packet, and from the place on it walks clean
pub record PlaceOf (e : Edition) (s : List ℕ) (at : ℕ) : Type 0 where
  pub near : length s ≤ limit
  pub inside : at ≤ length s
  pub clean : (walk_from e at (drop at s)).ending ≡ Clean

-- a message with so much room from a place on, and the place behind its options, each of which has some bytes
pub record FillsFrom (e : Edition) (s : List ℕ) (from room most to count : ℕ) : Type 0 where
  pub there : to ≡ from + total (take count (sizes_from e s from))
  pub rest : sizes_from e s to ≡ drop count (sizes_from e s from)
  pub here : PlaceOf e s to
  pub on : from + count ≤ to
  pub fills : Fills (sizes_from e s from) room most count

-- where message i of a plan begins, and how many bytes of options it has; nothing of a plan that is not followed
abbrev pub followed_of : Edition → List ℕ → ℕ → List ℕ → ℕ → Option (ℕ × ℕ)
followed_of e s room plan i =
    cond (follows own_bytes (own_bytes + room) (sizes_of e s) plan)
    (Some (start_of (sizes_of e s) plan i, start_of (sizes_of e s) plan (suc i) - start_of (sizes_of e s) plan i))
    None

-- how many messages our plan has; nothing where an option is too long for any
abbrev pub messages_in : ℕ → List ℕ → Option ℕ
messages_in room sizes = cond (each_fits own_bytes (own_bytes + room) sizes) (Some (length (plan_of own_bytes (own_bytes + room) sizes))) None
