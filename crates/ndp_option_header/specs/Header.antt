-- RFC 4861, section 4.6: an option begins with its type and its length, in units of eight octets.
-- Assumes nothing.
use Rattle.std.specs.Prelude.{ℕ, ◌*◌, cond, List, [], ◌∷◌, ltb, get_or, length}
use Rattle.paper.specs.Paper.{Paper, refuses, gives}
use Rattle.refusal.specs.Told.{told}
use Rattle.ndp_option_header.specs.declared.NdpOptionHeader.{NdpOptionHeader}
use Rattle.std.specs.Prelude.{Result}
use Rattle.refusal.specs.declared.Refusal.{Refusal}

-- the bytes that a number of units is
abbrev pub unit_bytes : ℕ → ℕ
unit_bytes units = 8 * units

-- a header as its two bytes
abbrev pub header_bytes : NdpOptionHeader → List ℕ
header_bytes h = h.option_type.0 ∷ h.length_units.0 ∷ []

-- of a header its type, its units and its place
abbrev pub placed_header : NdpOptionHeader × ℕ → List ℕ
placed_header (h, place) = h.option_type.0 ∷ h.length_units.0 ∷ place ∷ []

abbrev pub option_header_told : Result (NdpOptionHeader × ℕ) Refusal → Paper
option_header_told r = told placed_header r

-- under two bytes: refusal 5 (first byte or 0, 2, length); else the first two
unfoldable pub header_of : List ℕ → Paper
header_of s =
    cond (ltb (length s) 2) (refuses 5 (get_or s 0 0 ∷ 2 ∷ length s ∷ []))
    (gives (get_or s 0 0 ∷ get_or s 1 0 ∷ []))
