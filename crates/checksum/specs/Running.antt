-- What the private functions say of a running total, whose words are of memory order.
-- Assumes nothing.
use Rattle.std.specs.Prelude.{ℕ, ◌+◌, ◌-◌, ◌*◌, ◌/◌, ◌%◌, ◌<◌, ◌≤◌, ◌≡◌, List, [], ◌∷◌, length, drop}
use Rattle.checksum.specs.Ones.{words}
use Rattle.checksum.specs.Icmpv6.{pseudo_words}
use Rattle.checksum.specs.Narrow.{most, Narrow, pseudo_addends}

-- every element of the list is below m
pub data Below (m : ℕ) : List ℕ → Type 0 where
  none : Below m []
  more : {x : ℕ} {xs : List ℕ} → x < m → Below m xs → Below m (x ∷ xs)

abbrev pub Bytes : List ℕ → Type 0
Bytes s = Below 256 s

abbrev pub Words : List ℕ → Type 0
Words ws = Below 65536 ws

-- the plain sum of a list of numbers
abbrev pub plain_sum : List ℕ → ℕ
plain_sum [] = 0
plain_sum (w ∷ ws) = w + plain_sum ws

-- the plain sum of the words of a list of bytes, low byte first
abbrev pub low_first : List ℕ → ℕ
low_first [] = 0
low_first (a ∷ []) = a
low_first (a ∷ b ∷ s) = a + 256 * b + low_first s

-- what a running total has yet to take in at i
abbrev pub rest : List ℕ → ℕ → ℕ
rest s i = low_first (drop i s)

-- the carries of n taken round until 16 bits are left: 0 for 0, and else the number from 1 to 65,535 that differs from n by a
-- multiple of 65,535
unfoldable pub folded : ℕ → ℕ
folded n = n - 65535 * ((n - 1) / 65535)

-- a 16-bit number with its two bytes exchanged
abbrev pub swapped : ℕ → ℕ
swapped n = n % 256 * 256 + n / 256

-- what holds at every turn of the loop of `add_piece`, which adds the words of a piece to a folded sum: the total t with what is left is the whole, and
-- it is narrow
abbrev pub PieceTurn : ℕ → List ℕ → ℕ → ℕ → Type 0
PieceTurn from s t i = (i ≤ length s) × (i % 2 ≡ 0) × (t + rest s i ≡ from + rest s 0) × Narrow t i

-- what holds at every turn of the loop of `sum`, which adds pieces: the total t is a folded sum, and with what is left it folds like the whole
abbrev pub SumTurn : List ℕ → ℕ → ℕ → Type 0
SumTurn s t i = (i ≤ length s) × (t ≤ most 1) × (folded (t + rest s i) ≡ folded (rest s 0))

-- what folds to the sum of a part; that it holds bytes is told to the caller
pub record Part (s : List ℕ) (r : ℕ) : Type 0 where
  pub folds : folded r ≡ folded (plain_sum (words s))
  pub room : r ≤ most 1
  pub bytes : Bytes s

-- what folds to the sum of the pseudo-header
pub record Pseudo (source destination : List ℕ) (n r : ℕ) : Type 0 where
  pub folds : folded r ≡ folded (plain_sum (pseudo_words source destination n))
  pub room : r ≤ most pseudo_addends
  pub source-bytes : Bytes source
  pub destination-bytes : Bytes destination
