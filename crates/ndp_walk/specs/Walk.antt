-- The whole walk over option bytes: what is handed out, in order and with places, and how it ends.
-- Assumes nothing.
use Rattle.std.specs.Prelude.{ℕ, zero, suc, ◌+◌, List, [], ◌∷◌, ◌++◌, map, length, drop}
use Rattle.paper.specs.Paper.{Paper}
use Rattle.ndp_walk.specs.Judge.{Rule, Judgement, Over, Bad, Good, judge}

-- an option that is handed out: its kind, its type, its place and its length in bytes
pub record Item : Type 0 where
  pub kind : ℕ
  pub type : ℕ
  pub at : ℕ
  pub len : ℕ

abbrev pub item : ℕ → ℕ → ℕ → ℕ → Item
item kind type at len = record { kind = kind; type = type; at = at; len = len }

-- clean, or refused at a place
pub data Ending : Type 0 where
  Clean : Ending
  RefusedAt : ℕ → Paper → Ending

pub record Walk : Type 0 where
  pub items : List Item
  pub ending : Ending

-- items handed out, and then a walk
abbrev pub then : List Item → Walk → Walk
then is w = record { items = is ++ w.items; ending = w.ending }

abbrev pub clean : Walk
clean = record { items = []; ending = Clean }

abbrev pub refused : ℕ → Paper → Walk
refused at why = record { items = []; ending = RefusedAt at why }

-- what a judgement at a place makes of the walk behind it, which is a function of the option's length
abbrev pub follow : Judgement → ℕ → (ℕ → Walk) → Walk
follow Over at go = clean
follow (Bad why) at go = refused at why
follow (Good kind type len) at go = then (item kind type at len ∷ []) (go len)

-- the walk over a rest whose first byte is at a place, in so many steps at most. No steps, no options: a rest of n bytes has at most n
unfoldable pub walk_on : Rule → ℕ → ℕ → List ℕ → Walk
walk_on rule zero at l = clean
walk_on rule (suc steps) at l = follow (judge rule l) at (λ len. walk_on rule steps (at + len) (drop len l))

unfoldable pub walk_from : Rule → ℕ → List ℕ → Walk
walk_from rule at l = walk_on rule (length l) at l

abbrev pub walk : Rule → List ℕ → Walk
walk rule s = walk_from rule 0 s

-- a walk with every place moved on by d
abbrev pub shift_item : ℕ → Item → Item
shift_item d i = item i.kind i.type (d + i.at) i.len

abbrev pub shift_ending : ℕ → Ending → Ending
shift_ending d Clean = Clean
shift_ending d (RefusedAt at why) = RefusedAt (d + at) why

abbrev pub shift : ℕ → Walk → Walk
shift d w = record { items = map (shift_item d) w.items; ending = shift_ending d w.ending }
