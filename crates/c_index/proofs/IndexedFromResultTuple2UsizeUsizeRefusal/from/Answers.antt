-- A refusal's number is not 0, so that its numbers are those of the struct.
-- Assumes nothing.
use Rattle.refusal.proofs.Paper.{refusal-numbered}
use Rattle.c_index.specs.Indexed.{indexed_for}
use Rattle.c_index.proofs.IndexedFromResultTuple2UsizeUsizeRefusal.from.Goals as goal

pub returns-in-Err : goal.returns-in-Err
unfolding indexed_for
returns-in-Err c = rw (c.from.ensures, c.numbers-n.ensures, c.in-Err.is, refusal-numbered)
