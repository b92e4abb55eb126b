-- The lines of a listing (docs/RULES.md D1 to D7), each as a text in ASCII that ends in a newline. Numbers are decimal, but for the checksum field.
-- Assumes nothing.
use Rattle.std.specs.Prelude.{ℕ, zero, suc, List, [], ◌∷◌, ◌++◌}
use Prim.Native.Char.{code}
use Prim.Native.String.{String, char_at, len}
use Rattle.dump_lines.specs.Digits.{decimal, hex4}

-- the codes of n characters of a text, from one on
abbrev pub codes : String → ℕ → ℕ → List ℕ
codes s i zero = []
codes s i (suc n) = code (char_at s i) ∷ codes s (suc i) n

abbrev pub ascii : String → List ℕ
ascii s = codes s 0 (len s)

abbrev pub newline : List ℕ
newline = code "\n" ∷ []

-- a fixed text, and a number after it
unfoldable pub field : List ℕ → ℕ → List ℕ
field name n = name ++ decimal n

abbrev pub title_line : List ℕ
title_line = ascii "icmp6 1\n"

abbrev pub record_line : ℕ → ℕ → List ℕ
record_line number place = field (ascii "record ") number ++ (field (ascii " at ") place ++ newline)

-- a word, the code, the checksum field, the verdict, the length, and the reason of the receive check
abbrev pub head_line : List ℕ → ℕ → ℕ → List ℕ → ℕ → ℕ → List ℕ
head_line word code sum verdict len recv =
    word
    ++ field (ascii " code ") code
    ++ ascii " sum "
    ++ hex4 sum
    ++ verdict
    ++ field (ascii " len ") len
    ++ (field (ascii " recv ") recv ++ newline)

abbrev pub opt_line : ℕ → ℕ → ℕ → List ℕ
opt_line place kind bytes = field (ascii "opt ") place ++ (field (ascii " type ") kind ++ (field (ascii " bytes ") bytes ++ newline))

abbrev pub end_line : ℕ → List ℕ
end_line number = field (ascii "end ") number ++ newline

abbrev pub refused_at_line : ℕ → ℕ → List ℕ
refused_at_line number place = field (ascii "refused ") number ++ (field (ascii " at ") place ++ newline)

abbrev pub refused_line : ℕ → List ℕ
refused_line number = field (ascii "refused ") number ++ newline

abbrev pub records_line : ℕ → List ℕ
records_line number = field (ascii "records ") number ++ newline

abbrev pub stopped_line : ℕ → ℕ → List ℕ
stopped_line number place = field (ascii "stopped ") number ++ (field (ascii " at ") place ++ newline)
