-- The two zeros of one's complement: a number of 16 bits and another that the sum takes for it (docs/RULES.md S17).
-- Assumes nothing.
use Rattle.std.specs.Prelude.{ℕ, ◌≡◌, ◌⊎◌}

-- the one is 0000 and the other ffff
abbrev pub TwoZeros : ℕ → ℕ → Type 0
TwoZeros m n = ((m ≡ 0) × (n ≡ 65535)) ⊎ ((m ≡ 65535) × (n ≡ 0))
