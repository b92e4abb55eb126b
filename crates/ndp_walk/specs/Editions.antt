-- Two rules of the types, of which the second asks more: what it takes, the first takes too, and may show it as another kind.
-- Assumes nothing.
use Rattle.std.specs.Prelude.{ℕ, ◌≡◌, List, map, get_or}
use Rattle.ndp_walk.specs.Judge.{Rule, Fits}
use Rattle.ndp_walk.specs.Walk.{Item, Walk, item}

-- the kind that the first shows, of a type and the kind that the second has
abbrev pub Shown : Type 0
Shown = ℕ → ℕ → ℕ

abbrev pub Coarser : Shown → Rule → Rule → Type 0
Coarser shown first second = (o : List ℕ) (k : ℕ) → second o ≡ Fits k → first o ≡ Fits (shown (get_or o 0 0) k)

abbrev pub shown_item : Shown → Item → Item
shown_item shown i = item (shown i.type i.kind) i.type i.at i.len

abbrev pub shown_walk : Shown → Walk → Walk
shown_walk shown w = record { items = map (shown_item shown) w.items; ending = w.ending }
