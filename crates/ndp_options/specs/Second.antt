-- The types' own rule in the second edition: Route Information (RFC 4191, section 2.3) and Recursive DNS Server (RFC 8106, section 5.1); every
-- other type as in the first.
-- Assumes nothing.
use Rattle.std.specs.Prelude.{ℕ, ◌/◌, ◌%◌, ◌≤◌, ◌<◌, ◌≡◌, cond, ◌&&◌, List, [], ◌∷◌, ltb, leb, eqb, length, get_or}
use Rattle.paper.specs.Paper.{refuses}
use Rattle.router_preference.specs.Preference.{is_reserved}
use Rattle.ndp_option_header.specs.Header.{unit_bytes}
use Rattle.ndp_walk.specs.Judge.{Rule, Ruling, Fits, Misfits}
use Rattle.ndp_options.specs.Rule.{rule_of}

-- the bytes that a route of this prefix length needs: one, two or three units
abbrev pub needed_for : ℕ → ℕ
needed_for prefix = cond (eqb prefix 0) 8 (cond (leb prefix 64) 16 24)

-- more than three units: 5; a prefix length above 128: 18; too few units for it: 5; a reserved preference: unknown
abbrev pub route_rule : ℕ → ℕ → ℕ → Ruling
route_rule len prefix flags =
    cond (ltb 24 len) (Misfits (refuses 5 (24 ∷ 24 ∷ len ∷ [])))
    (cond (ltb 128 prefix) (Misfits (refuses 18 []))
    (cond (ltb len (needed_for prefix)) (Misfits (refuses 5 (24 ∷ needed_for prefix ∷ len ∷ [])))
    (Fits (cond (is_reserved flags) 0 24))))

-- an odd number of units, three or more; any other: 5
abbrev pub servers_rule : ℕ → Ruling
servers_rule len =
    cond (leb 24 len && eqb (len / 8 % 2) 1) (Fits 25)
    (Misfits (refuses 5 (25 ∷ 24 ∷ len ∷ [])))

-- by an option's type and length, and bytes 2 and 3 of it
abbrev pub second_of : ℕ → ℕ → ℕ → ℕ → Ruling
second_of type len prefix flags =
    cond (eqb type 24) (route_rule len prefix flags)
    (cond (eqb type 25) (servers_rule len)
    (rule_of type len))

unfoldable pub second : Rule
second o = second_of (get_or o 0 0) (length o) (get_or o 2 0) (get_or o 3 0)

-- at the head of a rest a whole route of one to three units, whose prefix length is above 128
abbrev pub LongRoute : List ℕ → Type 0
LongRoute l = (get_or l 0 0 ≡ 24) × (0 < get_or l 1 0) × (get_or l 1 0 ≤ 3) × (unit_bytes (get_or l 1 0) ≤ length l) × (128 < get_or l 2 0)
