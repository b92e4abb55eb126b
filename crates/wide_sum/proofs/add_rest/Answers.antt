-- `add_rest` meets its contract: every loop keeps that the total has taken in the bytes before i.
use Rattle.std.proofs.Common.{◌+◌, refl, ◌∙◌, arith}
use Rattle.wide_sum.proofs.Widths.{moves-unit, moves-around}
use Rattle.wide_sum.proofs.add_rest.Goals as goal

pub loop-i-3-preserved : goal.loop-i-3-preserved
loop-i-3-preserved c =
    let s = c.args.bytes.now in
    let i = c.loop-i-3.i in (
      omega arith,
      moves-around s i (i + 2) c.loop-i-3.t c.two.result c.around-t.result (moves-unit 2 s i c.two.result refl (omega arith) c.two.ensures.0) c.around-t.ensures
          ∙ c.loop-i-3.invariant.1,
    )

pub returns : goal.returns
returns c = c.add_last.ensures ∙ c.loop-i-3.invariant.1
