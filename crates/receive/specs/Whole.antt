-- What a packet of Neighbor Discovery is that may be acted on: a structured message with an option list that is whole in an edition.
-- Assumes nothing.
use Rattle.std.specs.Prelude.{ℕ, ◌+◌, ◌≤◌, ◌≡◌, Bool, true, false, List, ◌∷◌, map, length, get_or, drop}
use Rattle.paper.specs.Paper.{gives}
use Rattle.message_table.specs.Table.{fixed_len}
use Rattle.icmpv6_type.specs.Value.{fields_of}
use Rattle.icmpv6.specs.Head.{decode_of, checksum_at, word_at, fields_at}
use Rattle.ndp_walk.specs.Walk.{Item, Clean}
use Rattle.ndp_walk.specs.Laws.{bytes_in, concat}
use Rattle.ndp_options.specs.Walk.{walk, walk_from, step_of}
use Rattle.ndp_options.specs.Told.{step_told}
use Rattle.ndp_options.specs.Run.{Steps, Last, Ended, Run}
use Rattle.ndp_options.specs.declared.Edition.{Edition}
use Rattle.ndp_options.specs.declared.Step.{Step}
use Rattle.ndp_options.specs.declared.Step.TheVariants.{Handed, End, Refused, Stopped}
use Rattle.icmpv6_payload_slice.specs.declared.Icmpv6PayloadSlice.{Icmpv6PayloadSlice}
use Rattle.icmpv6_payload_slice.specs.Dispatch.{payload_kind_number}

-- an option, or the end; no refusal, and no walk that was stopped
abbrev pub is_whole : Step → Bool
is_whole (Handed o next) = true
is_whole End = true
is_whole (Refused why next) = false
is_whole Stopped = false

-- the option bytes of a packet at the place that was handed on
abbrev pub options_from : Icmpv6PayloadSlice → List ℕ → List ℕ
options_from message packet = drop message.options_at packet

pub record WholePacket (e : Edition) (packet : List ℕ) (message : Icmpv6PayloadSlice) : Type 0 where
  -- the head decodes to the kind of its type: behind checksum and bytes 4 to 7 stands the type, where an Unknown has 0
  pub kind : let type = get_or packet 0 0 in decode_of packet ≡ gives (checksum_at packet ∷ word_at packet ∷ type ∷ fields_of type 0 (fields_at packet))
  -- and so does what was handed on
  pub same : payload_kind_number message.kind ≡ get_or packet 0 0
  -- the fixed part is there, and the options begin behind it
  pub fixed : message.options_at ≡ 8 + fixed_len (get_or packet 0 0)
  pub there : message.options_at ≤ length packet
  -- the options walk clean to the end
  pub clean : (walk e (options_from message packet)).ending ≡ Clean
  -- and their bytes, each at its place in the packet, one after the other, are all that is behind the fixed part
  pub all : concat (map (bytes_in packet) (walk_from e message.options_at (options_from message packet)).items) ≡ options_from message packet
  -- whoever steps through them, at their place in the packet, is handed an option or told the end at every place that he comes to
  pub steps : (is : List Item) (at : ℕ) → Steps e message.options_at (options_from message packet) 0 is at → (x : Step) → step_told x ≡ step_of e message.options_at (options_from message packet) at → is_whole x ≡ true
  -- and whoever goes on until a step hands out no option has been handed them all, and is told the end
  pub run : (is : List Item) (l : Last) → Run e message.options_at (options_from message packet) is l → (is ≡ (walk_from e message.options_at (options_from message packet)).items) × (l ≡ Ended)
