-- docs/RULES.md N1 and N2: a packet under 8 bytes, or above MAX_ICMPV6_BYTE_LEN, which is the largest length that the 32 bits of
-- the pseudo-header's length field hold (RFC 8200, section 8.1).
-- Assumes nothing.
use Rattle.std.specs.Prelude.{ℕ, Bool, cond, not, ◌&&◌, [], ◌∷◌, ltb, Result}
use Rattle.paper.specs.Paper.{Paper, refuses, gives}
use Rattle.refusal.specs.Told.{told}
use Rattle.refusal.specs.declared.Refusal.{Refusal}

abbrev pub limit : ℕ
limit = 4294967295

-- whether a length is neither too short nor too long
abbrev pub fits : ℕ → Bool
fits n = not (ltb n 8) && not (ltb limit n)

-- an answer that is given for a packet of n bytes only where its length allows
unfoldable pub sized : ℕ → Paper → Paper
sized n answer = cond (ltb n 8) (refuses 1 (8 ∷ n ∷ [])) (cond (ltb limit n) (refuses 2 (limit ∷ n ∷ [])) answer)

abbrev pub length_told : Result (Unit {0}) Refusal → Paper
length_told = told (λ x. [])
