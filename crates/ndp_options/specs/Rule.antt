-- The types' own rule (docs/RULES.md W4 and W5; RFC 4861, section 4.6): the kind of each type, and how many bytes it must have.
-- Assumes nothing.
use Rattle.std.specs.Prelude.{ℕ, cond, [], ◌∷◌, ltb, eqb, length, get_or}
use Rattle.paper.specs.Paper.{refuses}
use Rattle.ndp_walk.specs.Judge.{Rule, Ruling, Fits, Misfits}

-- the kind of a type: 1 source and 2 target link-layer address, 3 prefix information, 4 redirected header, 5 MTU, 0 unknown
abbrev pub option_kind : ℕ → ℕ
option_kind type = cond (ltb 5 type) 0 type

-- the length that a type requires of an option of `len` bytes: the required length, or `len` itself where any length is allowed
abbrev pub asked_of : ℕ → ℕ → ℕ
asked_of type len = cond (eqb type 3) 32 (cond (eqb type 5) 8 len)

-- another size than the type asks: refusal 5
abbrev pub rule_of : ℕ → ℕ → Ruling
rule_of type len =
    cond (eqb len (asked_of type len)) (Fits (option_kind type))
    (Misfits (refuses 5 (type ∷ asked_of type len ∷ len ∷ [])))

unfoldable pub rule : Rule
rule o = rule_of (get_or o 0 0) (length o)
