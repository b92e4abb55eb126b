-- docs/RULES.md H3: the known types (RFC 4443, sections 3 and 4; RFC 4861, section 4), the codes that each has, and
-- the length of the fixed part that stands between the head and the options.
-- Assumes nothing.
use Rattle.std.specs.Prelude.{ℕ, Bool, cond, ◌&&◌, List, [], ◌∷◌, eqb, leb, ltb}
use Rattle.message_table.specs.declared.Row.{Row}

abbrev row : ℕ → ℕ → ℕ → Row
row k c f = record { kind = k; codes = c; fixed = f }

-- type, how many codes are listed (from 0 on), bytes of the fixed part
abbrev pub rows : List Row
rows =
    row 1 7 0 ∷ row 2 1 0 ∷ row 3 2 0 ∷ row 4 11 0 ∷ row 128 1 0 ∷ row 129 1 0 ∷ row 133 1 0 ∷ row 134 1 8 ∷ row 135 1 16
    ∷ row 136 1 16 ∷ row 137 1 32 ∷ []

-- the first row of a type; where there is none, a row with no code and no fixed part
abbrev pub row_of : List Row → ℕ → Row
row_of [] k = row k 0 0
row_of (r ∷ rs) k = cond (eqb r.kind k) r (row_of rs k)

-- whether a type is in the table and has the code
unfoldable pub known : ℕ → ℕ → Bool
known k c = ltb c (row_of rows k).codes

-- the bytes of a type's fixed part; none of a type that the table does not have
unfoldable pub fixed_len : ℕ → ℕ
fixed_len k = (row_of rows k).fixed

-- 133 to 137, the messages of Neighbor Discovery (RFC 4861, section 4)
abbrev pub is_ndp : ℕ → Bool
is_ndp k = leb 133 k && leb k 137
