-- The text of each line.
-- Assumes nothing.
use Rattle.std.specs.Prelude.{ℕ, List}
use Rattle.difference_lines.specs.declared.Line.{Line}
use Rattle.difference_lines.specs.declared.Line.TheVariants as line
use Rattle.difference_lines.specs.declared.Fault.{Fault}
use Rattle.difference_lines.specs.declared.Fault.TheVariants as fault
use Rattle.difference_lines.specs.Text.{title_line, entry_line, common_line, last_line, list_line, stopped, empty, more, refused, kind_word, refused_at}

-- what stands behind the list's number
abbrev pub fault_text : Fault → List ℕ
fault_text (fault.Stopped r p) = stopped r p
fault_text fault.Empty = empty
fault_text (fault.More p) = more p
fault_text (fault.Refused r) = refused r
fault_text (fault.Kind k) = kind_word k
fault_text (fault.RefusedAt r p) = refused_at r p

abbrev pub text : Line → List ℕ
text line.Title = title_line
text (line.Entry what p q x y) = entry_line what p q x y
text (line.Common n b) = common_line n b
text (line.Last n) = last_line n
text (line.Wrong list f) = list_line list (fault_text f)
