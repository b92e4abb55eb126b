-- The checksum of a header record (docs/RULES.md S7, S8, S10 and S11).
-- Assumes nothing.
use Rattle.std.specs.Prelude.{ℕ, cond, List, ◌∷◌, ◌++◌, eqb, get_or, drop}
use Rattle.paper.specs.Paper.{Paper, gives}
use Rattle.refusal.specs.Paper.{refusal}
use Rattle.icmpv6_type.specs.declared.Icmpv6Type.{Icmpv6Type}
use Rattle.icmpv6.specs.declared.icmpv6_header.Icmpv6Header.{Icmpv6Header}
use Rattle.icmpv6.specs.Head.{Way, Clearing, encode_by, header_told}
use Rattle.checksum.specs.Icmpv6.{checksum_of, computed_of}
use Rattle.std.specs.Prelude.{Result, Ok, Err}
use Rattle.refusal.specs.declared.Refusal.{Refusal}

-- refusal 3, or the checksum of the bytes that a way writes of a header, with a payload; whatever its field holds
abbrev pub calc_by : Way → List ℕ → List ℕ → Icmpv6Header → List ℕ → Paper
calc_by w source destination h payload = computed_of source destination (encode_by w h) payload

-- the checksum field after an answer: what was computed, or what it held where the answer refuses
abbrev pub field_after : Paper → ℕ → ℕ
field_after p field = cond (eqb p.number 0) (get_or p.values 0 0) field

-- the numbers of a header afterwards: the checksum stands first, all behind it stays
abbrev pub header_after : Paper → List ℕ → List ℕ
header_after p header = field_after p (get_or header 0 0) ∷ drop 1 header

-- refusal 3, or the header with that checksum
abbrev pub sealed_as : Paper → Icmpv6Header → Paper
sealed_as p h = cond (eqb p.number 0) (gives (header_after p (header_told h))) p

abbrev pub sealed_by : Way → List ℕ → List ℕ → Icmpv6Header → List ℕ → Paper
sealed_by w source destination h payload = sealed_as (calc_by w source destination h payload) h

-- the header that is handed out within the limit
abbrev pub with_sum : Way → List ℕ → List ℕ → Icmpv6Header → List ℕ → Icmpv6Header
with_sum w source destination h payload =
    record {
      icmp_type = h.icmp_type;
      checksum = checksum_of source destination (encode_by w h ++ payload);
      bytes5to8 = h.bytes5to8;
    }

-- the header of a value: it has kept nothing, so both ways write it alike
abbrev pub made_of : Icmpv6Type → Icmpv6Header
made_of t = record { icmp_type = t; checksum = 0; bytes5to8 = 0 }

abbrev pub calc_of : List ℕ → List ℕ → Icmpv6Type → List ℕ → Paper
calc_of source destination t payload = calc_by Clearing source destination (made_of t) payload

abbrev pub with_of : List ℕ → List ℕ → Icmpv6Type → List ℕ → Paper
with_of source destination t payload = sealed_by Clearing source destination (made_of t) payload

abbrev pub made : Result Icmpv6Header Refusal → Paper
made (Ok h) = gives (header_told h)
made (Err r) = refusal r
