-- RFC 1071: the one's complement sum of 16-bit words.
-- Assumes nothing.
use Rattle.std.specs.Prelude.{ℕ, suc, ◌+◌, ◌/◌, ◌%◌, List, [], ◌∷◌, set}
use Rattle.wire.specs.Wire.{word16}

-- section 1: one's complement addition of two 16-bit numbers, by the end around carry
infixl 65 ◌⊕◌
unfoldable pub ◌⊕◌ : ℕ → ℕ → ℕ
a ⊕ b = (a + b) % 65536 + (a + b) / 65536

-- section 1 (1): adjacent bytes paired to words, high byte first; a last byte without a second one is paired with 0
abbrev pub words : List ℕ → List ℕ
words [] = []
words (a ∷ []) = word16 a 0 ∷ []
words (a ∷ b ∷ s) = word16 a b ∷ words s

-- the folded sum of a list of words
abbrev pub ones_sum : List ℕ → ℕ
ones_sum [] = 0
ones_sum (w ∷ ws) = w ⊕ ones_sum ws

-- bytes with another word at a place
abbrev pub with_word : List ℕ → ℕ → ℕ → List ℕ
with_word s at n = set (set s at (n / 256 % 256)) (suc at) (n % 256)
