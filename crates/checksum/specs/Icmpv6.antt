-- The checksum of ICMPv6 (RFC 4443, section 2.3; docs/RULES.md S2 to S5), and the answers of the public calls.
-- Assumes nothing.
use Rattle.std.specs.Prelude.{ℕ, ◌-◌, ◌/◌, ◌%◌, cond, List, [], ◌∷◌, ◌++◌, ltb, eqb, length}
use Rattle.paper.specs.Paper.{Paper, gives, refuses}
use Rattle.packet_length.specs.Length.{sized}
use Rattle.checksum.specs.Ones.{words, ones_sum, with_word}

-- RFC 8200, section 8.1: source, destination, the packet's length as 32 bits, three zero bytes, the next header 58
abbrev pub pseudo_words : List ℕ → List ℕ → ℕ → List ℕ
pseudo_words source destination n = words source ++ words destination ++ n / 65536 ∷ n % 65536 ∷ 0 ∷ 58 ∷ []

-- the folded sum of the pseudo-header and the packet
unfoldable pub sum_of : List ℕ → List ℕ → List ℕ → ℕ
sum_of source destination packet = ones_sum (pseudo_words source destination (length packet) ++ words packet)

-- the packet with a number in its checksum field, the bytes 2 and 3, high byte first
abbrev pub with_field : List ℕ → ℕ → List ℕ
with_field packet n = with_word packet 2 n

-- 65,535 minus the sum, worked out with the field 0
unfoldable pub checksum_of : List ℕ → List ℕ → List ℕ → ℕ
checksum_of source destination packet = 65535 - sum_of source destination (with_field packet 0)

-- what MAX_ICMPV6_BYTE_LEN leaves after a head of eight bytes
abbrev pub payload_limit : ℕ
payload_limit = 4294967287

-- refusal 3, or the checksum of the head and the payload
unfoldable pub computed_of : List ℕ → List ℕ → List ℕ → List ℕ → Paper
computed_of source destination head payload =
    cond (ltb payload_limit (length payload)) (refuses 3 (payload_limit ∷ length payload ∷ []))
    (gives (checksum_of source destination (head ++ payload) ∷ []))

-- S3: valid is told as 1, not valid as 0
abbrev pub valid : Paper
valid = gives (1 ∷ [])

abbrev pub invalid : Paper
invalid = gives (0 ∷ [])

-- refusals 1 and 2, or the verdict
unfoldable pub verdict_of : List ℕ → List ℕ → List ℕ → Paper
verdict_of source destination packet =
    sized (length packet) (cond (eqb (sum_of source destination packet) 65535) valid invalid)
