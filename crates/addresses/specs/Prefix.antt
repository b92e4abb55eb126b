-- RFC 4291, section 2.3: an address prefix, ADDRESS/n, is the first n bits of the address.
-- Assumes nothing.
use Rattle.std.specs.Prelude.{ℕ, Bool, List, [], ◌∷◌, take}
use Rattle.wire.specs.Bits.{bit}
use Rattle.wire.specs.Prefix.{begins}

-- the bits of bytes, of each byte the highest first
abbrev pub bits_of : List ℕ → List ℕ
bits_of [] = []
bits_of (x ∷ s) = bit x 7 ∷ bit x 6 ∷ bit x 5 ∷ bit x 4 ∷ bit x 3 ∷ bit x 2 ∷ bit x 1 ∷ bit x 0 ∷ bits_of s

-- whether the first n bits of bytes are those of an address; no, where they have fewer
unfoldable pub in_prefix : List ℕ → ℕ → List ℕ → Bool
in_prefix address n s = begins (take n (bits_of address)) (bits_of s)
