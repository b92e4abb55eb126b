-- What a caller of `Cursor::step` sees: each answer is one that the step's promise allows, and each next step is made at the cursor that was handed on.
-- Assumes nothing.
use Rattle.std.specs.Prelude.{ℕ, ◌≡◌, cond, List, [], ◌∷◌, length}
use Rattle.paper.specs.Paper.{Paper}
use Rattle.packet_place.specs.Place.{is_far, far, with_place}
use Rattle.refusal.specs.declared.Refusal.{Refusal}
use Rattle.refusal.specs.Paper.{refusal}
use Rattle.ndp_walk.specs.Walk.{Item, Ending, Clean, RefusedAt, item}
use Rattle.ndp_options.specs.Walk.{walk_from, step_of}
use Rattle.ndp_options.specs.Told.{option_kind_number, step_told}
use Rattle.ndp_options.specs.declared.Edition.{Edition}
use Rattle.ndp_options.specs.declared.NdpOption.{NdpOption}
use Rattle.ndp_options.specs.declared.Cursor.{Cursor}
use Rattle.ndp_options.specs.declared.Step.TheVariants.{Handed, End, Refused, Stopped}

-- an option as the packet has it
abbrev pub placed_told : NdpOption → Item
placed_told o = item (option_kind_number o.kind) o.option_type.0 o.place o.len

-- from a place, by steps that hand out these options, to a place
pub data Steps (e : Edition) (offset : ℕ) (s : List ℕ) : ℕ → List Item → ℕ → Type 0 where
  here : {at : ℕ} → Steps e offset s at [] at
  on : {at to : ℕ} {is : List Item} (o : NdpOption) (next : Cursor) → step_told (Handed o next) ≡ step_of e offset s at → Steps e offset s next.at is to → Steps e offset s at (placed_told o ∷ is) to

-- the last answer of a run
pub data Last : Type 0 where
  Ended : Last
  RefusedBy : Paper → Last
  Halted : Last

-- from the first byte on, until a step hands out no option: what was handed out, and the last answer
pub data Run (e : Edition) (offset : ℕ) (s : List ℕ) : List Item → Last → Type 0 where
  ends : {is : List Item} {at : ℕ} → Steps e offset s 0 is at → step_told End ≡ step_of e offset s at → Run e offset s is Ended
  refuses : {is : List Item} {at : ℕ} (why : Refusal) (next : Cursor) → Steps e offset s 0 is at → step_told (Refused why next) ≡ step_of e offset s at → Run e offset s is (RefusedBy (refusal why))
  stops : {is : List Item} {at : ℕ} → Steps e offset s 0 is at → step_told Stopped ≡ step_of e offset s at → Run e offset s is Halted

-- what a run comes to: the walk's options and its ending, or at once the refusal of bytes too far on
abbrev pub last_of : Ending → Last
last_of Clean = Ended
last_of (RefusedAt place why) = RefusedBy (with_place place why)

abbrev pub ran_items : Edition → ℕ → List ℕ → List Item
ran_items e offset s = cond (is_far offset (length s)) [] (walk_from e offset s).items

abbrev pub ran_last : Edition → ℕ → List ℕ → Last
ran_last e offset s = cond (is_far offset (length s)) (RefusedBy far) (last_of (walk_from e offset s).ending)
