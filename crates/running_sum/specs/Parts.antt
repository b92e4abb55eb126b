-- The sum of bytes that lie in several parts (RFC 1071, sections 2 (A) and 3; docs/RULES.md U4 to U9).
-- Assumes nothing.
use Rattle.std.specs.Prelude.{ℕ, ◌+◌, ◌%◌, Bool, false, cond, List, [], ◌∷◌, ◌++◌, eqb, length}
use Rattle.paper.specs.Paper.{one_if}
use Rattle.checksum.specs.Ones.{◌⊕◌, words, ones_sum}
use Rattle.checksum.specs.Icmpv6.{pseudo_words}
use Rattle.checksum.specs.Running.{swapped}
use Rattle.running_sum.specs.declared.RunningSum.{RunningSum}

abbrev pub is_odd : ℕ → Bool
is_odd n = eqb (n % 2) 1

-- a sum as it counts behind n bytes: as it stands, or with its two bytes exchanged where n is odd
unfoldable pub behind : ℕ → ℕ → ℕ
behind n b = cond (is_odd n) (swapped b) b

-- the sum of n bytes whose sum is a, and of bytes behind them whose sum is b
unfoldable pub join_of : ℕ → ℕ → ℕ → ℕ
join_of a n b = a ⊕ behind n b

-- parts, one behind the other
abbrev pub whole : List (List ℕ) → List ℕ
whole [] = []
whole (s ∷ parts) = s ++ whole parts

-- what each part adds to the sum, where n bytes are before the first of them
abbrev pub shares : ℕ → List (List ℕ) → List ℕ
shares n [] = []
shares n (s ∷ parts) = behind n (ones_sum (words s)) ∷ shares (n + length s) parts

-- ---- a sum that walks from part to part

-- over some bytes
abbrev pub over : List ℕ → RunningSum
over s = record { sum = ones_sum (words s); odd = is_odd (length s) }

-- over the pseudo-header of a packet of n bytes, whose 40 bytes are even in number
abbrev pub over_pseudo : List ℕ → List ℕ → ℕ → RunningSum
over_pseudo source destination n = record { sum = ones_sum (pseudo_words source destination n); odd = false }

-- one, and behind its bytes those of another
infixl 65 ◌then◌
unfoldable pub ◌then◌ : RunningSum → RunningSum → RunningSum
a then b = record { sum = join_of a.sum (one_if a.odd) b.sum; odd = is_odd (one_if a.odd + one_if b.odd) }

-- one, with parts pushed on it in their order
abbrev pub pushed : RunningSum → List (List ℕ) → RunningSum
pushed r [] = r
pushed r (s ∷ parts) = pushed (r then over s) parts
