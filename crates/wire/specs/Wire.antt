-- Network byte order (RFC 791, appendix B): the high byte first. Flags by their weight.
-- Assumes nothing.
use Rattle.std.specs.Prelude.{ℕ, ◌+◌, ◌*◌, ◌/◌, ◌%◌, Bool, cond, List, [], ◌∷◌, eqb, get_or}

abbrev pub word16 : ℕ → ℕ → ℕ
word16 a b = 256 * a + b

abbrev pub word32 : ℕ → ℕ → ℕ → ℕ → ℕ
word32 a b c d = 16777216 * a + 65536 * b + 256 * c + d

-- the number at a place of some bytes
abbrev pub word16_at : List ℕ → ℕ → ℕ
word16_at s at = word16 (get_or s at 0) (get_or s (at + 1) 0)

abbrev pub word32_at : List ℕ → ℕ → ℕ
word32_at s at = word32 (get_or s at 0) (get_or s (at + 1) 0) (get_or s (at + 2) 0) (get_or s (at + 3) 0)

abbrev pub bytes16 : ℕ → List ℕ
bytes16 x = x / 256 % 256 ∷ x % 256 ∷ []

abbrev pub bytes32 : ℕ → List ℕ
bytes32 x = x / 16777216 % 256 ∷ x / 65536 % 256 ∷ x / 256 % 256 ∷ x % 256 ∷ []

-- whether the flag of weight w, a power of two, is set in x
abbrev pub has_flag : ℕ → ℕ → Bool
has_flag x w = eqb (x / w % 2) 1

-- the weight of a flag, where it is set
abbrev pub flag_of : Bool → ℕ → ℕ
flag_of b w = cond b w 0
