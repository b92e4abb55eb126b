-- The text of each line.
-- Assumes nothing.
use Rattle.std.specs.Prelude.{ℕ, Bool, true, false, cond, List, eqb}
use Rattle.dump_lines.specs.declared.Line.{Line}
use Rattle.dump_lines.specs.declared.Line.TheVariants as line
use Rattle.dump_lines.specs.Text.{ascii, title_line, record_line, head_line, opt_line, end_line, refused_at_line, refused_line, records_line, stopped_line}

-- the word for a kind, which is the type of a known message and 0 of an Unknown
abbrev pub word_for : ℕ → List ℕ
word_for kind =
    cond (eqb kind 1) (ascii "unreach")
    (cond (eqb kind 2) (ascii "toobig")
    (cond (eqb kind 3) (ascii "exceeded")
    (cond (eqb kind 4) (ascii "param")
    (cond (eqb kind 128) (ascii "echoreq")
    (cond (eqb kind 129) (ascii "echorep")
    (cond (eqb kind 133) (ascii "rs")
    (cond (eqb kind 134) (ascii "ra")
    (cond (eqb kind 135) (ascii "ns")
    (cond (eqb kind 136) (ascii "na")
    (cond (eqb kind 137) (ascii "redirect") (ascii "unknown")))))))))))

-- whether the checksum is right
abbrev pub ok_word : Bool → List ℕ
ok_word true = ascii " ok"
ok_word false = ascii " bad"

abbrev pub text : Line → List ℕ
text line.Title = title_line
text (line.Record n p) = record_line n p
text (line.Head k c s ok l r) = head_line (word_for k) c s (ok_word ok) l r
text (line.Opt p k l) = opt_line p k l
text (line.End n) = end_line n
text (line.RefusedAt r p) = refused_at_line r p
text (line.Refused r) = refused_line r
text (line.Records n) = records_line n
text (line.Stopped r p) = stopped_line r p
