-- The second edition's rule of routes and servers as the code applies it: what fits first, then what refuses the rest. proofs/Newer.antt: it is
-- that of specs/Second.antt.
-- Assumes nothing.
use Rattle.std.specs.Prelude.{ℕ, ◌+◌, ◌*◌, ◌/◌, ◌%◌, Bool, false, cond, ◌&&◌, ◌||◌, [], ◌∷◌, ltb, leb, eqb}
use Rattle.paper.specs.Paper.{refuses}
use Rattle.ndp_walk.specs.Judge.{Ruling, Fits, Misfits}
use Rattle.router_preference.specs.Preference.{is_reserved}
use Rattle.ndp_options.specs.declared.Edition.{Edition}
use Rattle.ndp_options.specs.declared.Edition.TheVariants.{First, Second}

-- whether an edition has a rule of its own for a type
abbrev pub asks_more : Edition → ℕ → Bool
asks_more First type = false
asks_more Second type = eqb type 24 || eqb type 25

-- a unit, and one for every 64 bits of the prefix
abbrev pub route_bytes : ℕ → ℕ
route_bytes prefix = ((prefix + 63) / 64 + 1) * 8

abbrev pub newer_fits : ℕ → ℕ → ℕ → Bool
newer_fits type len prefix = cond (eqb type 24) (leb len 24 && leb (route_bytes prefix) len) (leb 24 len && eqb (len / 8 % 2) 1)

abbrev pub newer_kind : ℕ → ℕ → ℕ
newer_kind type flags = cond (eqb type 25) 25 (cond (is_reserved flags) 0 24)

abbrev pub is_long : ℕ → ℕ → ℕ → Bool
is_long type len prefix = eqb type 24 && (leb len 24 && ltb 128 prefix)

abbrev pub newer_asked : ℕ → ℕ → ℕ → ℕ
newer_asked type len prefix = cond (eqb type 24) (cond (leb len 24) (route_bytes prefix) 24) 24

abbrev pub newer_of : ℕ → ℕ → ℕ → ℕ → Ruling
newer_of type len prefix flags =
    cond (newer_fits type len prefix) (Fits (newer_kind type flags))
    (cond (is_long type len prefix) (Misfits (refuses 18 []))
    (Misfits (refuses 5 (type ∷ newer_asked type len prefix ∷ len ∷ []))))
