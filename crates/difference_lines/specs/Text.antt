-- The lines that tell what differs between two lists (docs/RULES.md V9 to V12), each as a text in ASCII that ends in a newline. Numbers are decimal.
-- Assumes nothing.
use Rattle.std.specs.Prelude.{ℕ, cond, List, ◌++◌, eqb}
use Rattle.dump_lines.specs.Line.{word_for}
use Rattle.dump_lines.specs.Text.{ascii, newline, field}

abbrev pub title_line : List ℕ
title_line = ascii "icmp6diff 1\n"

-- ---- the entries of a report
-- two places, and two numbers with a word each
abbrev pub pair_line : List ℕ → ℕ → ℕ → List ℕ → ℕ → List ℕ → ℕ → List ℕ
pair_line name p q left x right y = field name p ++ (field (ascii " ") q ++ (field left x ++ (field right y ++ newline)))

-- two numbers with a word each
abbrev pub two_line : List ℕ → ℕ → List ℕ → ℕ → List ℕ
two_line name x next y = field name x ++ (field next y ++ newline)

-- an entry by its five numbers; of a longer list the place in it
abbrev pub entry_line : ℕ → ℕ → ℕ → ℕ → ℕ → List ℕ
entry_line what p q x y =
    cond (eqb what 0) (pair_line (ascii "same ") p q (ascii " type ") x (ascii " bytes ") y)
    (cond (eqb what 1) (pair_line (ascii "type ") p q (ascii " from ") x (ascii " to ") y)
    (cond (eqb what 2) (pair_line (ascii "length ") p q (ascii " from ") x (ascii " to ") y)
    (cond (eqb what 3) (pair_line (ascii "byte ") p q (ascii " from ") x (ascii " to ") y)
    (two_line (ascii "longer ") x (ascii " at ") (cond (eqb x 1) p q)))))

-- ---- behind them
-- the options with which the lists begin alike: how many, and their bytes
abbrev pub common_line : ℕ → ℕ → List ℕ
common_line options bytes = two_line (ascii "common ") options (ascii " bytes ") bytes

-- the last line, by how many entries are not `same`
abbrev pub last_line : ℕ → List ℕ
last_line n = cond (eqb n 0) (ascii "equal\n") (field (ascii "differ ") n ++ newline)

-- ---- what is wrong with a list
-- the list's number, and what stands behind it
abbrev pub list_line : ℕ → List ℕ → List ℕ
list_line list rest = field (ascii "list ") list ++ rest

abbrev pub stopped : ℕ → ℕ → List ℕ
stopped number place = two_line (ascii " stopped ") number (ascii " at ") place

abbrev pub empty : List ℕ
empty = ascii " empty\n"

abbrev pub more : ℕ → List ℕ
more place = field (ascii " more at ") place ++ newline

abbrev pub refused : ℕ → List ℕ
refused number = field (ascii " refused ") number ++ newline

abbrev pub kind_word : ℕ → List ℕ
kind_word kind = ascii " " ++ (word_for kind ++ newline)

abbrev pub refused_at : ℕ → ℕ → List ℕ
refused_at number place = two_line (ascii " refused ") number (ascii " at ") place
