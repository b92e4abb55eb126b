-- Refusal 3 with its numbers, at the last length of a payload that passes and at the first that does not. Head and payload together may be as long as
-- the pseudo-header's 32 bits can say for the checksum, and as an IPv6 header's 16 bits can say for the writer (RFC 8200, sections 8.1 and 3).
-- Assumes nothing.
use Rattle.std.specs.Prelude.{ℕ, ◌+◌, ◌≤◌, cond, ◌≡◌, List, [], ◌∷◌, eqb, length}
use Rattle.paper.specs.Paper.{Paper, refuses, gives}
use Rattle.icmpv6_type.specs.declared.Icmpv6Type.TheVariants.{Unknown}
use Rattle.checksum.specs.Icmpv6.{computed_of}
use Rattle.ndp_options.specs.declared.Edition.{Edition}
use Rattle.writer.specs.Write.{write_of}

-- the number and values of a refusal; none of an answer that refuses nothing
abbrev pub refusal_in : Paper → List ℕ
refusal_in p = cond (eqb p.number 0) [] (p.number ∷ p.values)

-- what refuses the checksum of a payload of so many bytes; what the writer answers of one of a type that is not listed, with room for it
pub data Case : Type 0 where
  sums : ℕ → List ℕ → Case
  writes : ℕ → Paper → Case

abbrev pub Claim : Case → Type 0
Claim (sums n answer) = (source destination head payload : List ℕ) → length payload ≡ n → refusal_in (computed_of source destination head payload) ≡ answer
Claim (writes n answer) = (e : Edition) (payload out : List ℕ) → length payload ≡ n → 8 + n ≤ length out → write_of e (Unknown 200 0 0) payload out ≡ answer

abbrev pub table : List Case
table =
    sums 4294967287 []
    ∷ sums 4294967288 (3 ∷ 4294967287 ∷ 4294967288 ∷ [])
    ∷ writes 65527 (gives (65535 ∷ []))
    ∷ writes 65528 (refuses 3 (65527 ∷ 65528 ∷ []))
    ∷ []
