-- `add_rest` meets its contract: every loop keeps that the total has taken in the bytes before i.
use Rattle.std.proofs.Common.{◌-◌, ◌≤◌, length}
use Rattle.wide_sum.specs.Units.{Moves}
use Rattle.wide_sum.proofs.add_rest.Given as goal

abbrev pub invariant-loop-i : goal.invariant-loop-i
invariant-loop-i l = (l.i ≤ length l.bytes) × Moves l.bytes l.fn.at l.fn.from l.i l.t

abbrev pub invariant-loop-i-2 : goal.invariant-loop-i-2
invariant-loop-i-2 l = (l.i ≤ length l.bytes) × Moves l.bytes l.fn.at l.fn.from l.i l.t

abbrev pub invariant-loop-i-3 : goal.invariant-loop-i-3
invariant-loop-i-3 l = (l.i ≤ length l.bytes) × Moves l.bytes l.fn.at l.fn.from l.i l.t

abbrev pub decreases-loop-i : goal.decreases-loop-i
decreases-loop-i l = length l.bytes - l.i

abbrev pub decreases-loop-i-2 : goal.decreases-loop-i-2
decreases-loop-i-2 l = length l.bytes - l.i

abbrev pub decreases-loop-i-3 : goal.decreases-loop-i-3
decreases-loop-i-3 l = length l.bytes - l.i
