-- What is left of a walk, as an iterator gives it: each option, and at last the refusal if there is one; and the walker that a call of `next` leaves.
-- Assumes nothing.
use Rattle.std.specs.Prelude.{ℕ, ◌+◌, ◌-◌, cond, List, [], ◌∷◌, ◌++◌, map, eqb, ltb, length, drop}
use Rattle.paper.specs.Paper.{Paper, gives}
use Rattle.packet_place.specs.Place.{is_far, far, with_place}
use Rattle.ndp_walk.specs.Walk.{Item, Ending, Clean, RefusedAt, Walk}
use Rattle.ndp_walk.specs.Step.{Told}
use Rattle.ndp_options.specs.Editions.{edition_of}
use Rattle.ndp_options.specs.Told.{option_kind_number}
use Rattle.ndp_options.specs.Walk.{walk_from, step_of}
use Rattle.ndp_options.specs.declared.Edition.{Edition}
use Rattle.ndp_options.specs.declared.NdpOption.{NdpOption}
use Rattle.ndp_walker.specs.declared.Walker.{Walker}

-- an option in numbers: its kind and type, its places in the option bytes and in the packet, its length
abbrev pub option_numbers : NdpOption → List ℕ
option_numbers o = option_kind_number o.kind ∷ o.option_type.0 ∷ o.at ∷ o.place ∷ o.len ∷ []

-- of an option of a walk over bytes that begin at an offset of the packet, as the packet has it
abbrev pub item_numbers : ℕ → Item → List ℕ
item_numbers offset i = i.kind ∷ i.type ∷ (i.at - offset) ∷ i.at ∷ i.len ∷ []

abbrev pub last_said : Ending → List Paper
last_said Clean = []
last_said (RefusedAt place why) = with_place place why ∷ []

-- what a walk says, in order
abbrev pub said : ℕ → Walk → List Paper
said offset w = map (λ i. gives (item_numbers offset i)) w.items ++ last_said w.ending

-- from a place in the bytes on: beyond them nothing, of bytes too far on their refusal, and else the rest of the walk
abbrev pub left_of : Edition → ℕ → List ℕ → ℕ → List Paper
left_of e offset s at =
    cond (ltb (length s) at) []
    (cond (is_far offset (length s)) (far ∷ [])
    (said offset (walk_from e (offset + at) (drop at s))))

-- the place that a step at a place hands on; where it hands on none, which is 0, the place itself
abbrev pub place_after : ℕ → Told → ℕ
place_after at t = cond (eqb t.place 0) at t.place

-- the walker that a call of `next` leaves: at the place that the step hands on, and else as it was
abbrev pub walker_after : Walker → Walker
walker_after w =
    record {
      options = w.options;
      offset = w.offset;
      edition = w.edition;
      at = place_after w.at (step_of (edition_of w.edition) w.offset w.options.now w.at);
    }
