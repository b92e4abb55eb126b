-- docs/RULES.md A1 to A3: the place of an option in the whole packet, from the offset at which its bytes begin there.
-- Assumes nothing.
use Rattle.std.specs.Prelude.{ℕ, ◌+◌, Bool, cond, List, [], ◌∷◌, ◌++◌, ltb, length}
use Rattle.paper.specs.Paper.{Paper, refuses}
use Rattle.packet_length.specs.Length.{limit}

-- whether n bytes at an offset reach beyond the longest packet
abbrev pub is_far : ℕ → ℕ → Bool
is_far offset n = ltb limit (offset + n)

-- refusal 22, which carries nothing
abbrev pub far : Paper
far = refuses 22 []

-- an answer that carries a place as well, behind its other values
abbrev pub with_place : ℕ → Paper → Paper
with_place place p = refuses p.number (p.values ++ place ∷ [])

-- of bytes that are read by themselves: 22, or what their rule answers, with the offset as its place
unfoldable pub placed : ℕ → List ℕ → Paper → Paper
placed offset s p = cond (is_far offset (length s)) far (with_place offset p)
