-- How large the totals get that the sum is made of: all of them fit 32 bits (docs/RULES.md S12, S13).
-- Assumes nothing.
use Rattle.std.specs.Prelude.{ℕ, ◌+◌, ◌*◌, ◌/◌, ◌≤◌}

-- what 32 bits hold is below this
abbrev pub bits32 : ℕ
bits32 = 4294967296

-- the most that k numbers of 16 bits come to
abbrev pub most : ℕ → ℕ
most k = 65535 * k

-- how many bytes are added before the carries are taken round
abbrev pub piece_bytes : ℕ
piece_bytes = 65536

-- how many numbers of 16 bits are in a total to which i bytes of a piece were added, word by word: the folded sum that it began with, and the words
abbrev pub addends : ℕ → ℕ
addends i = 1 + i / 2

-- the running total of a piece, after i bytes of it
abbrev pub Narrow : ℕ → ℕ → Type 0
Narrow t i = t ≤ most (addends i)

-- the numbers of 16 bits in the total of the pseudo-header: a folded sum of each address, the two words of the length, and 58
abbrev pub pseudo_addends : ℕ
pseudo_addends = 5

-- and in that of a packet: with a folded sum of the head and one of the payload
abbrev pub packet_addends : ℕ
packet_addends = pseudo_addends + 2
