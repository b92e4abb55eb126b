-- The head of a packet, read and written (RFC 4443, section 2.1; docs/RULES.md H1, H5, H6, H10, H16 to H20).
-- Assumes nothing.
use Rattle.std.specs.Prelude.{ℕ, ◌≡◌, List, [], ◌∷◌, ◌++◌, length, get_or}
use Rattle.paper.specs.Paper.{Paper, gives}
use Rattle.refusal.specs.Paper.{refusal}
use Rattle.wire.specs.Wire.{word16_at, word32_at, bytes16, bytes32}
use Rattle.packet_length.specs.Length.{sized}
use Rattle.icmpv6_type.specs.Value.{type_of, type_told, type_number, code_number}
use Rattle.icmpv6_type.specs.Reserved.{cleared, kept_bits, keeping}
use Rattle.icmpv6.specs.declared.icmpv6_header.Icmpv6Header.{Icmpv6Header}
use Rattle.std.specs.Prelude.{Result, Ok, Err}
use Rattle.refusal.specs.declared.Refusal.{Refusal}
use Rattle.icmpv6.specs.declared.icmpv6_slice.HeadParts.{HeadParts}

-- bytes 4 to 7
abbrev pub fields_at : List ℕ → List ℕ
fields_at p = get_or p 4 0 ∷ get_or p 5 0 ∷ get_or p 6 0 ∷ get_or p 7 0 ∷ []

abbrev pub checksum_at : List ℕ → ℕ
checksum_at p = word16_at p 2

-- bytes 4 to 7 as one number
abbrev pub word_at : List ℕ → ℕ
word_at p = word32_at p 4

-- the header at the start of a packet: the checksum field, bytes 4 to 7 as they came in, and the value of the head
unfoldable pub decode_of : List ℕ → Paper
decode_of p = sized (length p) (gives (checksum_at p ∷ word_at p ∷ type_of (get_or p 0 0) (get_or p 1 0) (fields_at p)))

-- the head of a packet without its reserved bits
abbrev pub cleared_head : List ℕ → List ℕ
cleared_head p = get_or p 0 0 ∷ get_or p 1 0 ∷ get_or p 2 0 ∷ get_or p 3 0 ∷ cleared (get_or p 0 0) (get_or p 1 0) (fields_at p)

-- type, code, checksum field, bytes 4 to 7
unfoldable pub head_parts : List ℕ → Paper
head_parts p =
    sized (length p)
    (gives (get_or p 0 0 ∷ get_or p 1 0 ∷ checksum_at p ∷ word_at p ∷ []))

-- the eight bytes that a header is written as, with the reserved bits of a number
abbrev pub encode_with : ℕ → Icmpv6Header → List ℕ
encode_with word h =
    type_number h.icmp_type ∷ code_number h.icmp_type ∷ (bytes16 h.checksum ++ keeping h.icmp_type (bytes32 word))

-- the two ways to write a header: every reserved bit 0, or as it was kept
pub data Way : Type 0 where
  Clearing : Way
  Keeping : Way

-- the way of every call that names none
abbrev pub by_default : Way
by_default = Keeping

abbrev pub kept_by : Way → ℕ → ℕ
kept_by Clearing word = 0
kept_by Keeping word = word

abbrev pub encode_by : Way → Icmpv6Header → List ℕ
encode_by w h = encode_with (kept_by w h.bytes5to8) h

-- the reserved bits that a header kept
abbrev pub kept_in : Icmpv6Header → List ℕ
kept_in h = kept_bits h.icmp_type (bytes32 h.bytes5to8)

-- two headers of the same head; the bits of bytes 4 to 7 that the value names are not asked for
abbrev pub SameHead : Icmpv6Header → Icmpv6Header → Type 0
SameHead x y = (x.icmp_type ≡ y.icmp_type) × (x.checksum ≡ y.checksum) × (kept_in x ≡ kept_in y)

-- checksum, bytes 4 to 7, and the value, whose count of numbers varies
abbrev pub header_told : Icmpv6Header → List ℕ
header_told h = h.checksum ∷ h.bytes5to8 ∷ type_told h.icmp_type

abbrev pub header_read_told : Result Icmpv6Header Refusal → Paper
header_read_told (Ok h) = gives (header_told h)
header_read_told (Err r) = refusal r

abbrev pub parts_told : Result HeadParts Refusal → Paper
parts_told (Ok h) = gives (h.type_u8 ∷ h.code_u8 ∷ h.checksum ∷ h.bytes5to8 ∷ [])
parts_told (Err r) = refusal r
