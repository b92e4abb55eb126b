-- One advertisement with a reserved bit, between addresses of zeros: what its checksum is by each way, and what a verdict says of one way's bytes with the
-- other's checksum.
-- Assumes nothing.
use Rattle.std.specs.Prelude.{ℕ, false, ◌≡◌, List, [], ◌∷◌, ◌++◌, replicate}
use Rattle.paper.specs.Paper.{gives}
use Rattle.icmpv6_type.specs.declared.Icmpv6Type.TheVariants.{RouterAdvertisement}
use Rattle.icmpv6.specs.declared.icmpv6_header.Icmpv6Header.{Icmpv6Header}
use Rattle.icmpv6.specs.Head.{Way, encode_by}
use Rattle.checksum.specs.Icmpv6.{verdict_of, valid, invalid}
use Rattle.icmpv6_checksum.specs.Header.{calc_by}

abbrev zeros : ℕ → List ℕ
zeros n = replicate n 0

-- 86 00, a checksum, 40 08 07 08: hop limit 64, neither flag, a reserved bit of weight 8, lifetime 1800
abbrev pub headed : ℕ → Icmpv6Header
headed sum =
    record {
      icmp_type = RouterAdvertisement (record { cur_hop_limit = 64; managed_address_config = false; other_config = false; router_lifetime = 1800 });
      checksum = sum;
      bytes5to8 = 0x40080708;
    }

-- the checksum of a way, with two timers of 0 behind the head
abbrev pub Sums : Way → ℕ → Type 0
Sums w sum = calc_by w (zeros 16) (zeros 16) (headed 0) (zeros 8) ≡ gives (sum ∷ [])

-- whether the packet that a way writes with a checksum validates
abbrev Written : Way → ℕ → List ℕ
Written w sum = encode_by w (headed sum) ++ zeros 8

abbrev pub Validates : Way → ℕ → Type 0
Validates w sum = verdict_of (zeros 16) (zeros 16) (Written w sum) ≡ valid

abbrev pub Fails : Way → ℕ → Type 0
Fails w sum = verdict_of (zeros 16) (zeros 16) (Written w sum) ≡ invalid
