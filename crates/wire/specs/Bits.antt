-- The bits of a number, and a number with its low bits cleared, or these alone: how reserved bits are dropped, and how they are kept.
-- Assumes nothing.
use Rattle.std.specs.Prelude.{ℕ, zero, suc, ◌+◌, ◌*◌, ◌/◌, ◌%◌}

-- bit i of x, bit 0 the lowest
abbrev pub bit : ℕ → ℕ → ℕ
bit x zero = x % 2
bit x (suc i) = bit (x / 2) i

-- x with its n lowest bits 0
abbrev pub clear : ℕ → ℕ → ℕ
clear zero x = x
clear (suc n) x = 2 * clear n (x / 2)

-- the n lowest bits of x alone
abbrev pub low : ℕ → ℕ → ℕ
low zero x = 0
low (suc n) x = x % 2 + 2 * low n (x / 2)
