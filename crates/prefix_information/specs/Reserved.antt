-- The reserved bits of a prefix information option: the low six of the flags, byte 3, and all of the bytes 12 to 15.
-- Assumes nothing.
use Rattle.std.specs.Prelude.{ℕ, suc, cond, ◌&&◌, List, [], ◌∷◌, eqb, leb, ltb}
use Rattle.wire.specs.Bits.{clear}

-- how many of the low bits of byte i
abbrev pub reserved : ℕ → ℕ
reserved i = cond (eqb i 3) 6 (cond (leb 12 i && ltb i 16) 8 0)

-- bytes, of which the first is byte i, with those bits 0 and every other as it is
abbrev pub cleared_from : ℕ → List ℕ → List ℕ
cleared_from i [] = []
cleared_from i (x ∷ l) = clear (reserved i) x ∷ cleared_from (suc i) l
