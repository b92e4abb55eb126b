-- Units of bytes as numbers, low byte first, and what the private functions say of a total that takes them in.
-- Assumes nothing.
use Rattle.std.specs.Prelude.{◌≡◌, ℕ, ◌+◌, ◌*◌, List, [], ◌∷◌, take, drop}
use Rattle.checksum.specs.Running.{Bytes, low_first, folded}

-- the number that some bytes make, low byte first
abbrev pub number : List ℕ → ℕ
number [] = 0
number (b ∷ s) = b + 256 * number s

-- the number of the k bytes from i on
abbrev pub unit : ℕ → List ℕ → ℕ → ℕ
unit k s i = number (take k (drop i s))

-- two numbers that may stand for each other in any sum that is folded
abbrev pub Alike : ℕ → ℕ → Type 0
Alike m n = (k : ℕ) → folded (m + k) ≡ folded (n + k)

-- a total m at i and a total n at j have the same fold once what is left is added to each: n has taken in what lies between
abbrev pub Moves : List ℕ → ℕ → ℕ → ℕ → ℕ → Type 0
Moves s i m j n = folded (n + low_first (drop j s)) ≡ folded (m + low_first (drop i s))

-- a total that has taken in some bytes, on top of another; that they are bytes is told to the caller
pub record Taken (from : ℕ) (s : List ℕ) (r : ℕ) : Type 0 where
  pub folds : folded r ≡ folded (from + low_first s)
  pub bytes : Bytes s
