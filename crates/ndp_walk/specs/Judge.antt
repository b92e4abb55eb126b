-- docs/RULES.md W3 and W4: what stands at the head of option bytes, for any rule of the types.
-- Assumes nothing.
use Rattle.std.specs.Prelude.{ℕ, cond, List, [], ◌∷◌, ltb, eqb, length, get_or, take}
use Rattle.paper.specs.Paper.{Paper, refuses}
use Rattle.ndp_option_header.specs.Header.{unit_bytes}

-- what a type's own rule says of an option: its kind, or the refusal
pub data Ruling : Type 0 where
  Fits : ℕ → Ruling
  Misfits : Paper → Ruling

-- a rule looks at the option's own bytes alone
abbrev pub Rule : Type 0
Rule = List ℕ → Ruling

-- no bytes; a refusal; or an option: its kind, its type and its bytes
pub data Judgement : Type 0 where
  Over : Judgement
  Bad : Paper → Judgement
  Good : ℕ → ℕ → ℕ → Judgement

abbrev pub ruled : ℕ → ℕ → Ruling → Judgement
ruled type len (Fits kind) = Good kind type len
ruled type len (Misfits why) = Bad why

-- no bytes: nothing; one byte: 5; a length byte of 0: 6; an option longer than what is left: 7; and only then the type's own rule
unfoldable pub judge : Rule → List ℕ → Judgement
judge rule l =
    cond (eqb (length l) 0) Over
    (cond (ltb (length l) 2) (Bad (refuses 5 (get_or l 0 0 ∷ 2 ∷ length l ∷ [])))
    (cond (eqb (get_or l 1 0) 0) (Bad (refuses 6 (get_or l 0 0 ∷ [])))
    (cond (ltb (length l) (unit_bytes (get_or l 1 0))) (Bad (refuses 7 (get_or l 0 0 ∷ unit_bytes (get_or l 1 0) ∷ length l ∷ [])))
    (ruled (get_or l 0 0) (unit_bytes (get_or l 1 0)) (rule (take (unit_bytes (get_or l 1 0)) l))))))
