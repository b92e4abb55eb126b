-- The checksum field of a packet of which one 16-bit word changes (RFC 1624; docs/RULES.md M1 to M3).
-- Assumes nothing.
use Rattle.std.specs.Prelude.{ℕ, ◌+◌, ◌-◌, ◌%◌, Bool, false, cond, List, [], ◌∷◌, ltb, eqb, length}
use Rattle.wire.specs.Wire.{word16_at}
use Rattle.paper.specs.Paper.{Paper, gives, refuses}
use Rattle.packet_length.specs.Length.{sized}
use Rattle.checksum.specs.Ones.{◌⊕◌, with_word}
use Rattle.checksum.specs.Icmpv6.{with_field}

-- section 3, equation 3: HC' = ~(~HC + ~m + m'), the field HC, the old word m, the new word m'
unfoldable pub updated_field : ℕ → ℕ → ℕ → ℕ
updated_field field old new = 65535 - ((65535 - field) ⊕ (65535 - old) ⊕ new)

-- whether a packet of n bytes has a word at a place, and one that may be changed: at an even place, not the field's, and both bytes there
abbrev pub is_word : ℕ → ℕ → Bool
is_word n place = cond (eqb (place % 2) 1) false (cond (eqb place 2) false (ltb (place + 1) n))

-- what the formula makes of the field of a packet
abbrev pub new_field : List ℕ → ℕ → ℕ → ℕ
new_field packet place word = updated_field (word16_at packet 2) (word16_at packet place) word

-- refusals 1 and 2, then 19 with the place, or the new field
unfoldable pub updated_of : List ℕ → ℕ → ℕ → Paper
updated_of packet place word =
    sized (length packet) (cond (is_word (length packet) place) (gives (new_field packet place word ∷ [])) (refuses 19 (place ∷ [])))

-- the packet with the word and the new field in it
abbrev pub changed : List ℕ → ℕ → ℕ → List ℕ
changed packet place word = with_field (with_word packet place word) (new_field packet place word)

-- the lent packet afterwards: as it was where the answer refuses
unfoldable pub left_of : List ℕ → ℕ → ℕ → List ℕ
left_of packet place word = cond (eqb (updated_of packet place word).number 0) (changed packet place word) packet
