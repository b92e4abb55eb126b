-- The writers for C: a packet's header is that of the type, the code and bytes 4 to 7 as one number; the answer is the place behind what was written,
-- which is its length where it was written at the start.
-- Assumes nothing.
use Rattle.std.specs.Prelude.{ℕ, cond, List, eqb, get_or}
use Rattle.paper.specs.Paper.{Paper}
use Rattle.refusal.specs.Paper.{slots}
use Rattle.wire.specs.Wire.{bytes32}
use Rattle.icmpv6_type.specs.declared.Icmpv6Type.{Icmpv6Type}
use Rattle.icmpv6_type.specs.From as head
use Rattle.icmpv6.specs.declared.icmpv6_header.Icmpv6Header.{Icmpv6Header}
use Rattle.c_answer.specs.Answer.{REFUSED, WRITTEN, none}
use Rattle.c_written.specs.declared.Written.{Written}

abbrev pub value_of_word : ℕ → ℕ → ℕ → Icmpv6Type
value_of_word type code word = head.value_of type code (bytes32 word)

-- the value of the three, and bytes 4 to 7 beside it, as a header that was read has them
abbrev pub header_of_word : ℕ → ℕ → ℕ → Icmpv6Header
header_of_word type code word = record { icmp_type = value_of_word type code word; checksum = 0; bytes5to8 = word }

abbrev pub written : ℕ → ℕ → List ℕ → ℕ → Written
written answer refusal value length = record { answer = answer; refusal = refusal; value = value; length = length }

unfoldable pub written_for : Paper → Written
written_for p =
    cond (eqb p.number 0) (written WRITTEN 0 none (get_or p.values 0 0))
    (written REFUSED p.number (slots p.values) 0)
