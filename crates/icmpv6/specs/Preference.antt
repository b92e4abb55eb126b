-- RFC 4191, section 2.2: how far a router advertisement asks that its router be preferred, by bits 16 and 8 of its flags, byte 5, which a header
-- record keeps. Medium, which is 0, where the bits are reserved, and of any other kind.
-- Assumes nothing.
use Rattle.std.specs.Prelude.{ℕ, cond, ◌&&◌, List, [], ◌∷◌, eqb, length, get_or}
use Rattle.paper.specs.Paper.{Paper, gives}
use Rattle.wire.specs.Wire.{bytes32}
use Rattle.packet_length.specs.Length.{sized}
use Rattle.router_preference.specs.Preference.{preference_of}
use Rattle.icmpv6_type.specs.Value.{kind_number}
use Rattle.icmpv6.specs.declared.icmpv6_header.Icmpv6Header.{Icmpv6Header}

-- byte 5 as a record keeps it
abbrev pub flags_in : Icmpv6Header → ℕ
flags_in h = get_or (bytes32 h.bytes5to8) 1 0

abbrev pub preference_in : Icmpv6Header → ℕ
preference_in h = cond (eqb (kind_number h.icmp_type) 134) (preference_of (flags_in h)) 0

-- the same of a packet's own bytes: type 134 with code 0
abbrev pub preference_at : List ℕ → ℕ
preference_at p = cond (eqb (get_or p 0 0) 134 && eqb (get_or p 1 0) 0) (preference_of (get_or p 5 0)) 0

-- of a packet that is read first
unfoldable pub preference_read : List ℕ → Paper
preference_read p = sized (length p) (gives (preference_at p ∷ []))
