-- RFC 4291, section 2.4, and docs/RULES.md R11: kinds of addresses by the bits that they begin with.
-- Assumes nothing.
use Rattle.std.specs.Prelude.{ℕ, Bool, ◌&&◌, List, [], ◌∷◌, ◌++◌, eqb, length, replicate}
use Rattle.wire.specs.Prefix.{begins}
use Rattle.addresses.specs.Prefix.{in_prefix}

-- whether two are the same bytes
abbrev pub same : List ℕ → List ℕ → Bool
same a b = eqb (length a) (length b) && begins a b

-- RFC 4291, section 2.5.2: all 0
abbrev pub unspecified : List ℕ → Bool
unspecified a = begins (replicate 16 0) a

-- section 2.7: ff00::/8
abbrev pub multicast : List ℕ → Bool
multicast a = in_prefix (0xff ∷ []) 8 a

-- section 2.5.6: fe80::/10, a first byte 254, and the two high bits of the second 10
abbrev pub link_local : List ℕ → Bool
link_local a = in_prefix (0xfe ∷ 0x80 ∷ []) 10 a

-- section 2.7.1: ff02:0:0:0:0:1:ff00::/104
abbrev pub solicited_node : List ℕ → Bool
solicited_node a = in_prefix (0xff ∷ 0x02 ∷ (replicate 9 0 ++ 0x01 ∷ 0xff ∷ [])) 104 a
