-- The words in which the laws of a walk at an offset are said: every place is one in the packet, of which the bytes are a part.
-- Assumes nothing.
use Rattle.std.specs.Prelude.{ℕ, ◌+◌, ◌-◌, ◌<◌, cond, List, ◌++◌, length, drop}
use Rattle.paper.specs.Paper.{Paper}
use Rattle.packet_place.specs.Place.{with_place}
use Rattle.ndp_walk.specs.Judge.{Rule}
use Rattle.ndp_walk.specs.Walk.{Item, Ending, Clean, RefusedAt, Walk, then, walk_from}
use Rattle.ndp_walk.specs.Step.{Told, told, ended, stopped, handed}
use Rattle.ndp_walk.specs.Laws.{missing}

-- two answers of a step that differ by an offset: the place of an option or of a refusal is so much further on, and all else is equal
pub data Moved (o : ℕ) : Told → Told → Type 0 where
  option : (i : Item) (place next : ℕ) → Moved o (handed i place next) (handed i (o + place) next)
  refusal : (why : Paper) (place next : ℕ) → 0 < why.number → Moved o (told (with_place place why) next) (told (with_place (o + place) why) next)
  end : Moved o ended ended
  stop : Moved o stopped stopped

-- of a clean walk an answer, of a refused one the refusal with its place
abbrev pub end_by : Ending → Paper → Paper
end_by Clean p = p
end_by (RefusedAt place why) p = with_place place why

-- docs/RULES.md J1 to J5 at an offset: what the walk over a ++ b is, by how the walk over a ended. Clean (J2): it goes on as b's from behind a.
-- Bytes missing (J4): it goes on as the walk over what a has left, with b behind it. Refused for another reason (J3): it is a's
abbrev pub joined_from : Rule → ℕ → List ℕ → List ℕ → Ending → Walk
joined_from rule o a b Clean = then (walk_from rule o a).items (walk_from rule (o + length a) b)
joined_from rule o a b (RefusedAt place why) =
    cond (missing why) (then (walk_from rule o a).items (walk_from rule place (drop (place - o) a ++ b))) (walk_from rule o a)
