-- A running sum for C (docs/RULES.md X17): `odd` is 1 or 0 where it goes out, and any number where it comes back.
-- Assumes nothing.
use Rattle.paper.specs.Paper.{one_if}
use Rattle.running_sum.specs.Parts.{is_odd}
use Rattle.running_sum.specs.declared.RunningSum.{RunningSum}
use Rattle.c_answer.specs.Answer.{SUM}
use Rattle.c_summed.specs.declared.Summed.{Summed}

abbrev pub summed_for : RunningSum → Summed
summed_for r = record { answer = SUM; sum = r.sum; odd = one_if r.odd }

abbrev pub running_of : Summed → RunningSum
running_of s = record { sum = s.sum; odd = is_odd s.odd }
