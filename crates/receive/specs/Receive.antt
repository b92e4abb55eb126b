-- docs/RULES.md R1 to R5, R9, R10: the receive check (RFC 4861, sections 6.1.1, 6.1.2, 7.1.1, 7.1.2 and 8.1): a packet that passes is opened, and handed on as the dispatch tells
-- it. After refusals 1 and 2 come the reasons of refusal 11, in the order in which they are tested.
-- Assumes nothing.
use Rattle.std.specs.Prelude.{ℕ, Bool, true, false, cond, not, List, [], ◌∷◌, eqb, length, get_or}
use Rattle.paper.specs.Paper.{Paper, refuses}
use Rattle.packet_length.specs.Length.{fits}
use Rattle.message_table.specs.Table.{is_ndp}
use Rattle.checksum.specs.Icmpv6.{verdict_of}
use Rattle.checksum.specs.Fields.{is_valid}
use Rattle.ndp_walk.specs.Walk.{Ending, Clean, RefusedAt}
use Rattle.ndp_options.specs.Walk.{walk}
use Rattle.ndp_options.specs.declared.Edition.{Edition}
use Rattle.ndp_option_list.specs.Whole.{occurs}
use Rattle.icmpv6_payload_slice.specs.Dispatch.{options_in, parts_of, kind_at, by_bytes}
use Rattle.receive_rules.specs.Reasons.{Reason, reason, first_of}
use Rattle.receive.specs.Own.{own_of}

-- the option bytes of a packet, as the dispatch places them
abbrev pub packet_options : List ℕ → List ℕ
packet_options packet = options_in 8 (kind_at packet) packet

abbrev pub is_clean : Ending → Bool
is_clean Clean = true
is_clean (RefusedAt at why) = false

-- whether the checksum of a packet is right
abbrev pub is_sound : List ℕ → List ℕ → List ℕ → Bool
is_sound source destination packet = is_valid (verdict_of source destination packet)

-- R5, then the type's own of R6 to R8
unfoldable pub option_reasons : Edition → ℕ → List ℕ → List ℕ → List ℕ → List ℕ → List Reason
option_reasons e type options source destination packet =
    reason 5 (not (is_clean (walk e options).ending)) ∷ own_of type source destination packet (occurs 1 (walk e options).items)

-- R1 to R4, and those above; of other types R2 alone
unfoldable pub reasons : Edition → ℕ → List ℕ → List ℕ → List ℕ → List Reason
reasons e hops source destination packet =
    let type = get_or packet 0 0 in
    cond (is_ndp type)
    (reason 1 (not (eqb hops 255))
    ∷ reason 2 (not (is_sound source destination packet))
    ∷ reason 3 (not (eqb (get_or packet 1 0) 0))
    ∷ reason 4 (eqb (by_bytes packet).number 4)
    ∷ option_reasons e type (packet_options packet) source destination packet)
    (reason 2 (not (is_sound source destination packet)) ∷ [])

-- the reason, 0 where there is none: of a length that is refused nothing is tested
unfoldable pub reason_of : Edition → ℕ → List ℕ → List ℕ → List ℕ → ℕ
reason_of e hops source destination packet = cond (fits (length packet)) (first_of (reasons e hops source destination packet)) 0

-- what a packet is that is accepted, and where its parts are
abbrev pub accepted : List ℕ → Paper
accepted packet = parts_of 8 (kind_at packet) (length packet)

abbrev pub not_received : ℕ → Paper
not_received n = refuses 11 (n ∷ [])

-- what the dispatch tells of a packet that no reason speaks against, refusals 1 and 2 among it
abbrev pub answer_by : List ℕ → ℕ → Paper
answer_by packet n = cond (eqb n 0) (by_bytes packet) (not_received n)

unfoldable pub receive_of : Edition → ℕ → List ℕ → List ℕ → List ℕ → Paper
receive_of e hops source destination packet = answer_by packet (reason_of e hops source destination packet)
