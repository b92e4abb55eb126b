-- The number and values of each answer: of a packet that is accepted, what the dispatch tells.
-- Assumes nothing.
use Rattle.std.specs.Prelude.{ℕ, Bool, List}
use Rattle.paper.specs.Paper.{Paper}
use Rattle.ndp_options.specs.declared.Edition.{Edition}
use Rattle.icmpv6_payload_slice.specs.Dispatch.{payload_told, by_bytes}
use Rattle.receive_rules.specs.Reasons.{reason_told}
use Rattle.receive.specs.Receive.{is_sound, reason_of}
use Rattle.receive.specs.declared.Judged.{Judged}
use Rattle.std.specs.Prelude.{Result}
use Rattle.refusal.specs.declared.Refusal.{Refusal}
use Rattle.icmpv6_payload_slice.specs.declared.Icmpv6PayloadSlice.{Icmpv6PayloadSlice}

abbrev pub received_told : Result Icmpv6PayloadSlice Refusal → Paper
received_told answer = payload_told answer

-- a packet that was judged: what it is, whether its checksum is right, and the reason against it
pub record PacketJudgement : Type 0 where
  pub opened : Paper
  pub valid : Bool
  pub reason : ℕ

abbrev pub judged_of : Edition → ℕ → List ℕ → List ℕ → List ℕ → PacketJudgement
judged_of e hops source destination packet =
    record { opened = by_bytes packet; valid = is_sound source destination packet; reason = reason_of e hops source destination packet }

abbrev pub packet_judged_told : Judged → PacketJudgement
packet_judged_told j = record { opened = payload_told j.opened; valid = j.valid; reason = reason_told j.reason }
