-- The value that a head stands for (RFC 4443, sections 2.1, 3 and 4; RFC 4861, section 4; docs/RULES.md H3, H5, H6), told as
-- numbers: 0 with type, code and bytes 4 to 7 where it is Unknown, else the type and what its bytes hold.
-- Assumes nothing.
use Rattle.std.specs.Prelude.{ℕ, cond, List, [], ◌∷◌, eqb, get_or}
use Rattle.wire.specs.Wire.{word32_at, bytes32}
use Rattle.message_table.specs.Table.{known}
use Rattle.icmpv6_codes.specs.Codes.{dest_number, time_number, problem_number}
use Rattle.icmpv6_headers.specs.Headers.{echo_of, echo_told, echo_bytes, router_of, router_told, router_bytes, neighbor_of, neighbor_told, neighbor_bytes}
use Rattle.icmpv6_type.specs.declared.Icmpv6Type.{Icmpv6Type}
use Rattle.icmpv6_type.specs.declared.Icmpv6Type.TheVariants.{Unknown, DestinationUnreachable, PacketTooBig, TimeExceeded, ParameterProblem, EchoRequest, EchoReply, RouterSolicitation, RouterAdvertisement, NeighborSolicitation, NeighborAdvertisement, Redirect}

-- bytes 4 to 7 as one number
abbrev pub word_of : List ℕ → ℕ
word_of b = word32_at b 0

-- what a known type keeps of its code and of bytes 4 to 7: 1 and 3 the code; 2 the MTU; 4 code and pointer; 128 and 129 identifier and
-- sequence; 134 hop limit, M, O, lifetime; 136 R, S, O; the others nothing
abbrev pub fields_of : ℕ → ℕ → List ℕ → List ℕ
fields_of k c b =
    cond (eqb k 1) (c ∷ [])
    (cond (eqb k 2) (word_of b ∷ [])
    (cond (eqb k 3) (c ∷ [])
    (cond (eqb k 4) (c ∷ word_of b ∷ [])
    (cond (eqb k 128) (echo_of b)
    (cond (eqb k 129) (echo_of b)
    (cond (eqb k 134) (router_of b)
    (cond (eqb k 136) (neighbor_of b) [])))))))

unfoldable pub type_of : ℕ → ℕ → List ℕ → List ℕ
type_of k c b = cond (known k c) (k ∷ fields_of k c b) (0 ∷ k ∷ c ∷ word_of b ∷ [])

abbrev pub type_told : Icmpv6Type → List ℕ
type_told (Unknown k c w) = 0 ∷ k ∷ c ∷ w ∷ []
type_told (DestinationUnreachable c) = 1 ∷ dest_number c ∷ []
type_told (PacketTooBig mtu) = 2 ∷ mtu ∷ []
type_told (TimeExceeded c) = 3 ∷ time_number c ∷ []
type_told (ParameterProblem h) = 4 ∷ problem_number h.code ∷ h.pointer ∷ []
type_told (EchoRequest h) = 128 ∷ echo_told h
type_told (EchoReply h) = 129 ∷ echo_told h
type_told RouterSolicitation = 133 ∷ []
type_told (RouterAdvertisement h) = 134 ∷ router_told h
type_told NeighborSolicitation = 135 ∷ []
type_told (NeighborAdvertisement h) = 136 ∷ neighbor_told h
type_told Redirect = 137 ∷ []

-- the kind of a value: the first number that it is told as
abbrev pub kind_number : Icmpv6Type → ℕ
kind_number t = get_or (type_told t) 0 0

-- the three parts of the head that a value is written as, beside the checksum
abbrev pub type_number : Icmpv6Type → ℕ
type_number (Unknown k c w) = k
type_number (DestinationUnreachable c) = 1
type_number (PacketTooBig mtu) = 2
type_number (TimeExceeded c) = 3
type_number (ParameterProblem h) = 4
type_number (EchoRequest h) = 128
type_number (EchoReply h) = 129
type_number RouterSolicitation = 133
type_number (RouterAdvertisement h) = 134
type_number NeighborSolicitation = 135
type_number (NeighborAdvertisement h) = 136
type_number Redirect = 137

abbrev pub code_number : Icmpv6Type → ℕ
code_number (Unknown k c w) = c
code_number (DestinationUnreachable c) = dest_number c
code_number (PacketTooBig mtu) = 0
code_number (TimeExceeded c) = time_number c
code_number (ParameterProblem h) = problem_number h.code
code_number (EchoRequest h) = 0
code_number (EchoReply h) = 0
code_number RouterSolicitation = 0
code_number (RouterAdvertisement h) = 0
code_number NeighborSolicitation = 0
code_number (NeighborAdvertisement h) = 0
code_number Redirect = 0

abbrev pub nothing : List ℕ
nothing = 0 ∷ 0 ∷ 0 ∷ 0 ∷ []

abbrev pub field_bytes : Icmpv6Type → List ℕ
field_bytes (Unknown k c w) = bytes32 w
field_bytes (DestinationUnreachable c) = nothing
field_bytes (PacketTooBig mtu) = bytes32 mtu
field_bytes (TimeExceeded c) = nothing
field_bytes (ParameterProblem h) = bytes32 h.pointer
field_bytes (EchoRequest h) = echo_bytes h
field_bytes (EchoReply h) = echo_bytes h
field_bytes RouterSolicitation = nothing
field_bytes (RouterAdvertisement h) = router_bytes h
field_bytes NeighborSolicitation = nothing
field_bytes (NeighborAdvertisement h) = neighbor_bytes h
field_bytes Redirect = nothing
