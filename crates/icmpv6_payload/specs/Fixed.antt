-- Refusal 4: a payload that is shorter than the fixed part of its message (RFC 4861, sections 4.2 to 4.5). The part is the payload's first bytes.
-- Assumes nothing.
use Rattle.std.specs.Prelude.{ℕ, cond, List, Result, Ok, Err, ltb, length, take}
use Rattle.refusal.specs.declared.Refusal.{Refusal}
use Rattle.refusal.specs.declared.Refusal.TheVariants.{ShortFixedPart}

-- the bytes of a fixed part of n bytes
abbrev pub part_of : ℕ → List ℕ → List ℕ
part_of n s = take n s

-- a fixed part of n bytes, by what its bytes are; refusal 4 carries what is needed and what is present
abbrev pub fixed_of : {P : Type 0} → (List ℕ → P) → ℕ → List ℕ → Result P Refusal
fixed_of part n s = cond (ltb (length s) n) (Err (ShortFixedPart n (length s))) (Ok (part (part_of n s)))
