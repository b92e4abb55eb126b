-- The bits of some bytes, and a change that lies within a window of adjacent bits (docs/RULES.md S14).
-- Assumes nothing.
use Rattle.std.specs.Prelude.{ℕ, zero, suc, ◌+◌, ◌-◌, ◌*◌, ◌/◌, ◌%◌, ◌<◌, ◌≤◌, ◌≡◌, List, length, get_or}
use Rattle.wire.specs.Bits.{bit}

-- bit i, counted from 0 at the highest bit of the first byte to the lowest of the last; 0 behind them
abbrev pub bit_at : List ℕ → ℕ → ℕ
bit_at s i = bit (get_or s (i / 8) 0) (7 - i % 8)

-- two byte lists of one length, whose bits are the same before bit `at` and from bit `at + width` on
pub record Outside (width at : ℕ) (p q : List ℕ) : Type 0 where
  pub same_length : length q ≡ length p
  pub before : (i : ℕ) → i < at → bit_at q i ≡ bit_at p i
  pub behind : (i : ℕ) → at + width ≤ i → bit_at q i ≡ bit_at p i

-- two lists that are not the same: of bytes, that at least one bit is another (`same_bits` of proofs/Same.antt)
abbrev pub Differ : List ℕ → List ℕ → Type 0
Differ p q = p ≡ q → ⊥

-- a change within the `width` bits from bit `at` on
pub record Within (width at : ℕ) (p q : List ℕ) : Type 0 where
  pub outside : Outside width at p q
  pub differ : Differ p q

-- how many adjacent bits may be changed, as one likes, so that no change of them slips through
abbrev pub window : ℕ
window = 15

-- the number that `width` bits make from bit `at` on, the first of them the highest
abbrev pub number_at : List ℕ → ℕ → ℕ → ℕ
number_at s at zero = 0
number_at s at (suc width) = 2 * number_at s at width + bit_at s (at + width)
