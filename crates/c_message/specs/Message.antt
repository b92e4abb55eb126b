-- A message's own fixed part for C (RFC 4861, sections 4.1 to 4.5): places count from the packet's first byte, and one that a kind does not have is 0, as
-- its timers are. All of it is 0 where the dispatch refuses.
-- Assumes nothing.
use Rattle.std.specs.Prelude.{ℕ, ◌+◌, ◌-◌, ◌*◌, cond, List, [], ◌∷◌, eqb, leb, length, get_or}
use Rattle.paper.specs.Paper.{Paper, value}
use Rattle.refusal.specs.Paper.{slots}
use Rattle.wire.specs.Wire.{word32_at}
use Rattle.message_table.specs.Table.{fixed_len}
use Rattle.icmpv6_payload_slice.specs.Parts.{addresses}
use Rattle.c_answer.specs.Answer.{REFUSED, MESSAGE, none}
use Rattle.c_message.specs.declared.Message.{Message}

-- the place of a kind's address: of its target, which is number 0, or of its destination field
abbrev pub address_place : ℕ → ℕ → ℕ
address_place i k = cond (leb (addresses k) i) 0 (8 + 16 * i)

-- section 4.2: reachable time, retransmission timer
abbrev pub timers_of : ℕ → List ℕ → List ℕ
timers_of k p = cond (eqb k 134) (word32_at p 8 ∷ word32_at p 12 ∷ []) (0 ∷ 0 ∷ [])

-- of a packet of a kind whose options begin at a place
abbrev pub fixed_part_of : ℕ → ℕ → List ℕ → Message
fixed_part_of k at p =
    record {
      answer = MESSAGE;
      refusal = 0;
      value = none;
      kind = k;
      fixed_length = fixed_len k;
      reachable_time = get_or (timers_of k p) 0 0;
      retrans_timer = get_or (timers_of k p) 1 0;
      target_at = address_place 0 k;
      destination_at = address_place 1 k;
      options_at = at;
      options_length = length p - at;
    }

abbrev pub refused_with : ℕ → List ℕ → Message
refused_with number value =
    record {
      answer = REFUSED;
      refusal = number;
      value = value;
      kind = 0;
      fixed_length = 0;
      reachable_time = 0;
      retrans_timer = 0;
      target_at = 0;
      destination_at = 0;
      options_at = 0;
      options_length = 0;
    }

-- by what the dispatch answers: the place of the payload, that of the options, and the kind
unfoldable pub message_for : List ℕ → Paper → Message
message_for p d = cond (eqb d.number 0) (fixed_part_of (value 2 d) (value 1 d) p) (refused_with d.number (slots d.values))
