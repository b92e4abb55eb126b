-- Changes that keep the sum, so that no checksum of this kind can see them (docs/RULES.md S20 to S22).
-- Assumes nothing.
use Rattle.std.specs.Prelude.{ℕ, zero, suc, ◌+◌, ◌-◌, List, [], ◌∷◌, ◌++◌, get_or, set}
use Rattle.wire.specs.Wire.{word16_at}
use Rattle.checksum.specs.Ones.{with_word}

-- some bytes with those at i and j exchanged
abbrev pub exchanged : List ℕ → ℕ → ℕ → List ℕ
exchanged s i j = set (set s i (get_or s j 0)) j (get_or s i 0)

-- with the two bytes from i on and the two from j on exchanged
abbrev pub words_exchanged : List ℕ → ℕ → ℕ → List ℕ
words_exchanged s i j = exchanged (exchanged s i j) (suc i) (suc j)

-- with n more in the word at i, and n less in the word at j
abbrev pub carried_over : List ℕ → ℕ → ℕ → ℕ → List ℕ
carried_over s i j n = with_word (with_word s i (word16_at s i + n)) j (word16_at s j - n)

-- so many words 0000
abbrev pub zero_words : ℕ → List ℕ
zero_words zero = []
zero_words (suc k) = 0 ∷ 0 ∷ zero_words k

-- k words 0000 between some bytes and others: behind the second part, and in front of it, which has moved on by 2 k bytes
abbrev pub zeros_behind : List ℕ → List ℕ → ℕ → List ℕ → List ℕ
zeros_behind a b k c = a ++ (b ++ (zero_words k ++ c))

abbrev pub zeros_before : List ℕ → List ℕ → ℕ → List ℕ → List ℕ
zeros_before a b k c = a ++ (zero_words k ++ (b ++ c))
