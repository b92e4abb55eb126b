-- docs/RULES.md K6: the addresses in the fixed part of a message (RFC 4861, sections 4.3 to 4.5): the target stands first, and a redirect's destination field
-- behind it. `base` is the place of the payload in the bytes that are given.
-- Assumes nothing.
use Rattle.std.specs.Prelude.{ℕ, ◌+◌, ◌*◌, cond, List, [], eqb, leb, ltb, length, take, drop}

-- how many addresses a kind has: 135 and 136 the target, 137 target and destination
abbrev pub addresses : ℕ → ℕ
addresses k = cond (eqb k 135) 1 (cond (eqb k 136) 1 (cond (eqb k 137) 2 0))

-- 16 bytes from a place on, or none where there are fewer
abbrev pub sixteen_at : ℕ → List ℕ → List ℕ
sixteen_at at s = cond (ltb (length s) (at + 16)) [] (take 16 (drop at s))

-- an address by its number; none of a kind that has fewer
abbrev pub address_part : ℕ → ℕ → ℕ → List ℕ → List ℕ
address_part base i k s = cond (leb (addresses k) i) [] (sixteen_at (base + 16 * i) s)
