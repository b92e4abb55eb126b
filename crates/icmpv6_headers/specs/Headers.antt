-- Bytes 4 to 7 of the head, read and written: echo (RFC 4443, section 4.1), router advertisement (RFC 4861, section 4.2), neighbor
-- advertisement (section 4.4). A flag is told as 1 or 0. Reserved bits are dropped on reading and written 0.
-- Assumes nothing.
use Rattle.std.specs.Prelude.{ℕ, ◌+◌, List, [], ◌∷◌, ◌++◌, eqb, get_or}
use Rattle.paper.specs.Paper.{one_if}
use Rattle.wire.specs.Wire.{word16_at, bytes16, has_flag, flag_of}
use Rattle.icmpv6_headers.specs.declared.icmp_echo_header.IcmpEchoHeader.{IcmpEchoHeader}
use Rattle.icmpv6_headers.specs.declared.router_advertisement_header.RouterAdvertisementHeader.{RouterAdvertisementHeader}
use Rattle.icmpv6_headers.specs.declared.neighbor_advertisement_header.NeighborAdvertisementHeader.{NeighborAdvertisementHeader}

-- identifier, sequence number
abbrev pub echo_of : List ℕ → List ℕ
echo_of b = word16_at b 0 ∷ word16_at b 2 ∷ []

-- hop limit; M and O, the two high bits of byte 5; lifetime
abbrev pub router_of : List ℕ → List ℕ
router_of b =
    get_or b 0 0 ∷ one_if (has_flag (get_or b 1 0) 128) ∷ one_if (has_flag (get_or b 1 0) 64) ∷ word16_at b 2 ∷ []

-- R, S and O, the three high bits of byte 4
abbrev pub neighbor_of : List ℕ → List ℕ
neighbor_of b =
    one_if (has_flag (get_or b 0 0) 128) ∷ one_if (has_flag (get_or b 0 0) 64) ∷ one_if (has_flag (get_or b 0 0) 32) ∷ []

abbrev pub echo_told : IcmpEchoHeader → List ℕ
echo_told h = h.id ∷ h.seq ∷ []

abbrev pub router_told : RouterAdvertisementHeader → List ℕ
router_told h =
    h.cur_hop_limit ∷ one_if h.managed_address_config ∷ one_if h.other_config ∷ h.router_lifetime ∷ []

abbrev pub neighbor_told : NeighborAdvertisementHeader → List ℕ
neighbor_told h = one_if h.router ∷ one_if h.solicited ∷ one_if h.override_flag ∷ []

-- the header that is told as these numbers
abbrev pub echo_from : List ℕ → IcmpEchoHeader
echo_from l = record { id = get_or l 0 0; seq = get_or l 1 0 }

abbrev pub router_from : List ℕ → RouterAdvertisementHeader
router_from l =
    record {
      cur_hop_limit = get_or l 0 0;
      managed_address_config = eqb (get_or l 1 0) 1;
      other_config = eqb (get_or l 2 0) 1;
      router_lifetime = get_or l 3 0;
    }

abbrev pub neighbor_from : List ℕ → NeighborAdvertisementHeader
neighbor_from l = record { router = eqb (get_or l 0 0) 1; solicited = eqb (get_or l 1 0) 1; override_flag = eqb (get_or l 2 0) 1 }

abbrev pub echo_bytes : IcmpEchoHeader → List ℕ
echo_bytes h = bytes16 h.id ++ bytes16 h.seq

abbrev pub router_bytes : RouterAdvertisementHeader → List ℕ
router_bytes h =
    h.cur_hop_limit ∷ (flag_of h.managed_address_config 128 + flag_of h.other_config 64) ∷ bytes16 h.router_lifetime

abbrev pub neighbor_bytes : NeighborAdvertisementHeader → List ℕ
neighbor_bytes h =
    (flag_of h.router 128 + flag_of h.solicited 64 + flag_of h.override_flag 32) ∷ 0 ∷ 0 ∷ 0 ∷ []
