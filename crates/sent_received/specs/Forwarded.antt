-- One advertisement with a reserved bit (docs/RULES.md S11, T10), read and written again by each way. Its addresses are fe80::27b and ff02::1, since the
-- source of an advertisement is link-local; they add up to 65,535, so its checksums are those that S11 has between addresses of zeros.
-- Assumes nothing.
use Rattle.std.specs.Prelude.{ℕ, ◌≡◌, List, [], ◌∷◌, ◌++◌, drop, replicate}
use Rattle.paper.specs.Paper.{gives}
use Rattle.icmpv6.specs.Head.{Way, decode_of, header_told}
use Rattle.checksum.specs.Icmpv6.{verdict_of, valid}
use Rattle.icmpv6_checksum.specs.Mixed.{headed}
use Rattle.ndp_options.specs.declared.Edition.{Edition}
use Rattle.receive.specs.Receive.{receive_of, accepted}
use Rattle.writer.specs.Write.{packet_by}

abbrev zeros : ℕ → List ℕ
zeros n = replicate n 0

abbrev router : List ℕ
router = 0xfe ∷ 0x80 ∷ (zeros 12 ++ 0x02 ∷ 0x7b ∷ [])

abbrev everyone : List ℕ
everyone = 0xff ∷ 0x02 ∷ (zeros 13 ++ 0x01 ∷ [])

-- hop limit 64, lifetime 1800, two timers of 0, with a checksum of 32 and a low byte, and flags
abbrev pub advertisement : ℕ → ℕ → List ℕ
advertisement low flags = 0x86 ∷ 0 ∷ 0x32 ∷ low ∷ 0x40 ∷ flags ∷ 0x07 ∷ 0x08 ∷ zeros 8

-- what is read of the packet that came in
abbrev pub Reads : Type 0
Reads = decode_of (advertisement 0xa5 8) ≡ gives (header_told (headed 0x32a5))

-- written again by a way it is this packet, which validates and is received in either edition
abbrev pub Comes : Way → List ℕ → Type 0
Comes w packet =
    (packet_by w router everyone (headed 0x32a5) (drop 8 (advertisement 0xa5 8)) ≡ packet)
    × (verdict_of router everyone packet ≡ valid)
    × ((e : Edition) → receive_of e 255 router everyone packet ≡ accepted packet)
