-- docs/RULES.md K1 to K5: what a message is and where its parts are (RFC 4443, section 2.1; RFC 4861, sections 4.1 to 4.5), by its kind. Every layer that opens a
-- message goes by this page. `n` is how many bytes are given, and `base` the place of the payload in them: 0 of a payload alone, 8 of a packet, whose
-- head stands before it. Places count from the first of the bytes that are given; the numbers of refusal 4 count from the payload's first byte.
-- Assumes nothing.
use Rattle.std.specs.Prelude.{ℕ, ◌+◌, ◌-◌, cond, List, [], ◌∷◌, ltb, length, get_or, drop}
use Rattle.paper.specs.Paper.{Paper, refuses, gives}
use Rattle.refusal.specs.Paper.{refusal}
use Rattle.message_table.specs.Table.{known, fixed_len, is_ndp}
use Rattle.packet_length.specs.Length.{sized}
use Rattle.icmpv6_type.specs.declared.Icmpv6Type.{Icmpv6Type}
use Rattle.icmpv6_type.specs.Value as value
use Rattle.icmpv6_payload_slice.specs.declared.Icmpv6PayloadKind.{Icmpv6PayloadKind}
use Rattle.icmpv6_payload_slice.specs.declared.Icmpv6PayloadKind.TheVariants.{Raw, DestinationUnreachable, PacketTooBig, TimeExceeded, ParameterProblem, EchoRequest, EchoReply, RouterSolicitation, RouterAdvertisement, NeighborSolicitation, NeighborAdvertisement, Redirect}
use Rattle.std.specs.Prelude.{Result, Ok, Err}
use Rattle.refusal.specs.declared.Refusal.{Refusal}
use Rattle.icmpv6_payload_slice.specs.declared.Icmpv6PayloadSlice.{Icmpv6PayloadSlice}

-- the kind of a type that the table has is the type; of any other it is 0, raw
abbrev pub payload_kind : ℕ → ℕ
payload_kind k = cond (known k 0) k 0

-- where the options are: behind the fixed part of a message of Neighbor Discovery; another kind has none, and they are told at the end
abbrev pub options_at : ℕ → ℕ → ℕ → ℕ
options_at base k n = cond (is_ndp k) (base + fixed_len k) n

-- the option bytes
abbrev pub options_in : ℕ → ℕ → List ℕ → List ℕ
options_in base k s = drop (options_at base k (length s)) s

-- the place of the payload, that of the options, and the kind
abbrev pub parts_of : ℕ → ℕ → ℕ → Paper
parts_of base k n = gives (base ∷ options_at base k n ∷ payload_kind k ∷ [])

-- refusal 4 where the fixed part is not all there
unfoldable pub payload_of : ℕ → ℕ → ℕ → Paper
payload_of base k n =
    let present = n - base in
    cond (ltb present (fixed_len k)) (refuses 4 (fixed_len k ∷ present ∷ [])) (parts_of base k n)

-- by the value of a head and the payload: its kind, which is 0 where it is Unknown
abbrev pub by_value : Icmpv6Type → List ℕ → Paper
by_value t s = payload_of 0 (value.kind_number t) (length s)

-- by the bytes of a packet: its type, where the table has it with its code
abbrev pub kind_at : List ℕ → ℕ
kind_at p = cond (known (get_or p 0 0) (get_or p 1 0)) (get_or p 0 0) 0

unfoldable pub by_bytes : List ℕ → Paper
by_bytes p = sized (length p) (payload_of 8 (kind_at p) (length p))

-- a kind's number is its type's
abbrev pub payload_kind_number : Icmpv6PayloadKind → ℕ
payload_kind_number Raw = 0
payload_kind_number DestinationUnreachable = 1
payload_kind_number PacketTooBig = 2
payload_kind_number TimeExceeded = 3
payload_kind_number ParameterProblem = 4
payload_kind_number EchoRequest = 128
payload_kind_number EchoReply = 129
payload_kind_number RouterSolicitation = 133
payload_kind_number RouterAdvertisement = 134
payload_kind_number NeighborSolicitation = 135
payload_kind_number NeighborAdvertisement = 136
payload_kind_number Redirect = 137

abbrev pub payload_told : Result Icmpv6PayloadSlice Refusal → Paper
payload_told (Ok p) = gives (p.payload_at ∷ p.options_at ∷ payload_kind_number p.kind ∷ [])
payload_told (Err r) = refusal r
