-- docs/RULES.md H8: the reserved bits of bytes 4 to 7, which no field of a known pair holds; written 0, or as they were kept (H16). In each
-- byte they are its lowest.
-- Assumes nothing.
use Rattle.std.specs.Prelude.{ℕ, ◌+◌, ◌<◌, Bool, cond, ◌&&◌, List, [], ◌∷◌, eqb, get_or}
use Rattle.wire.specs.Bits.{clear, low}
use Rattle.message_table.specs.Table.{known}
use Rattle.icmpv6_type.specs.declared.Icmpv6Type.{Icmpv6Type}
use Rattle.icmpv6_type.specs.declared.Icmpv6Type.TheVariants.{Unknown, DestinationUnreachable, PacketTooBig, TimeExceeded, ParameterProblem, EchoRequest, EchoReply, RouterSolicitation, RouterAdvertisement, NeighborSolicitation, NeighborAdvertisement, Redirect}
use Rattle.icmpv6_type.specs.Value.{kind_number, type_number, code_number, nothing, field_bytes}

-- how many low bits are reserved, of each of bytes 4 to 7
abbrev pub reserved_of : ℕ → ℕ → List ℕ
reserved_of k c =
    cond (known k c)
    (cond (eqb k 2) nothing
    (cond (eqb k 4) nothing
    (cond (eqb k 128) nothing
    (cond (eqb k 129) nothing
    (cond (eqb k 134) (0 ∷ 6 ∷ 0 ∷ 0 ∷ [])
    (cond (eqb k 136) (5 ∷ 8 ∷ 8 ∷ 8 ∷ []) (8 ∷ 8 ∷ 8 ∷ 8 ∷ [])))))))
    nothing

-- bytes 4 to 7 without their reserved bits
abbrev pub cleared : ℕ → ℕ → List ℕ → List ℕ
cleared k c b =
    let n = reserved_of k c in
    clear (get_or n 0 0) (get_or b 0 0) ∷ clear (get_or n 1 0) (get_or b 1 0) ∷ clear (get_or n 2 0) (get_or b 2 0)
    ∷ clear (get_or n 3 0) (get_or b 3 0) ∷ []

-- how many low bits of each byte a value does not name
abbrev pub reserved_in : Icmpv6Type → List ℕ
reserved_in t = reserved_of (kind_number t) (code_number t)

-- the reserved bits alone, of bytes 4 to 7 that were kept beside a value
abbrev pub kept_bits : Icmpv6Type → List ℕ → List ℕ
kept_bits t b =
    let n = reserved_in t in
    low (get_or n 0 0) (get_or b 0 0) ∷ low (get_or n 1 0) (get_or b 1 0) ∷ low (get_or n 2 0) (get_or b 2 0) ∷ low (get_or n 3 0) (get_or b 3 0) ∷ []

-- bytes 4 to 7 of a value with those bits: a bit that the value names is written from the value, a reserved one is the kept one
abbrev pub keeping : Icmpv6Type → List ℕ → List ℕ
keeping t b =
    let f = field_bytes t in
    let r = kept_bits t b in
    (get_or f 0 0 + get_or r 0 0) ∷ (get_or f 1 0 + get_or r 1 0) ∷ (get_or f 2 0 + get_or r 2 0) ∷ (get_or f 3 0 + get_or r 3 0) ∷ []

-- the numbers of a value fit their fields, as those of every value in memory do
abbrev pub Fits : Icmpv6Type → Type 0
Fits (Unknown k c w) = (k < 256) × (c < 256) × (w < 4294967296)
Fits (DestinationUnreachable c) = Unit
Fits (PacketTooBig mtu) = mtu < 4294967296
Fits (TimeExceeded c) = Unit
Fits (ParameterProblem h) = h.pointer < 4294967296
Fits (EchoRequest h) = (h.id < 65536) × (h.seq < 65536)
Fits (EchoReply h) = (h.id < 65536) × (h.seq < 65536)
Fits RouterSolicitation = Unit
Fits (RouterAdvertisement h) = (h.cur_hop_limit < 256) × (h.router_lifetime < 65536)
Fits NeighborSolicitation = Unit
Fits (NeighborAdvertisement h) = Unit
Fits Redirect = Unit

-- an Unknown that names a pair which the table has
abbrev pub misnamed : Icmpv6Type → Bool
misnamed t = eqb (kind_number t) 0 && known (type_number t) (code_number t)
