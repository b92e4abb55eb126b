-- The head of a packet for C. On paper it is the checksum field, bytes 4 to 7, and then the value: 0, type, code and bytes 4 to 7 of an Unknown, else
-- the type and what it keeps, of types 1, 3 and 4 first the code.
-- Assumes nothing.
use Rattle.std.specs.Prelude.{ℕ, cond, List, [], ◌∷◌, eqb, get_or, drop}
use Rattle.paper.specs.Paper.{Paper}
use Rattle.refusal.specs.Paper.{slots}
use Rattle.icmpv6_type.specs.Value.{fields_of, type_of}
use Rattle.icmpv6.specs.Head.{fields_at, checksum_at, word_at}
use Rattle.c_answer.specs.Answer.{REFUSED, KNOWN, UNKNOWN, none}
use Rattle.c_decode.specs.declared.Head.{Head}

-- of an Unknown, of a type that keeps its code, of another
abbrev pub by_form : List ℕ → {A : Type 0} → A → A → A → A
by_form v unknown coded other =
    cond (eqb (get_or v 0 0) 0) unknown
    (cond (eqb (get_or v 0 0) 1) coded (cond (eqb (get_or v 0 0) 3) coded (cond (eqb (get_or v 0 0) 4) coded other)))

-- four numbers of a list, 0 past its last
abbrev pub fields : List ℕ → List ℕ
fields l = get_or l 0 0 ∷ get_or l 1 0 ∷ get_or l 2 0 ∷ get_or l 3 0 ∷ []

-- what the value keeps of bytes 4 to 7
abbrev pub kept_of : List ℕ → List ℕ
kept_of v = fields (by_form v (drop 3 v) (drop 2 v) (drop 1 v))

-- the same by type and bytes: the code, whichever it is, is no part of it
abbrev pub fields_for : ℕ → List ℕ → List ℕ
fields_for k b = kept_of (k ∷ fields_of k 0 b)

abbrev pub head : ℕ → ℕ → ℕ → ℕ → ℕ → List ℕ → Head
head answer type code checksum word field =
    record {
      answer = answer;
      refusal = 0;
      value = none;
      icmp_type = type;
      code = code;
      checksum = checksum;
      bytes5to8 = word;
      field = field;
    }

-- the checksum field, bytes 4 to 7 and the value
abbrev pub head_of_value : ℕ → ℕ → List ℕ → Head
head_of_value checksum word v =
    head (by_form v UNKNOWN KNOWN KNOWN) (by_form v (get_or v 1 0) (get_or v 0 0) (get_or v 0 0)) (by_form v (get_or v 2 0) (get_or v 1 0) 0) checksum word
    (kept_of v)

-- a packet's head by its type and code
abbrev pub head_at : ℕ → ℕ → List ℕ → Head
head_at k c p = head_of_value (checksum_at p) (word_at p) (type_of k c (fields_at p))

unfoldable pub head_for : Paper → Head
head_for p =
    cond (eqb p.number 0) (head_of_value (get_or p.values 0 0) (get_or p.values 1 0) (drop 2 p.values))
    (record {
      answer = REFUSED;
      refusal = p.number;
      value = slots p.values;
      icmp_type = 0;
      code = 0;
      checksum = 0;
      bytes5to8 = 0;
      field = fields [];
    })
