use Rattle.std.proofs.Common.{vec_items, arith}
use Rattle.stream.proofs.Running.{run_none, run_more, run_all}
use Rattle.stream.proofs.answer_lines.Goals as goal

pub loop-end-init : goal.loop-end-init
loop-end-init c = (omega arith, run_none c.args.input.now c.new.result (vec_items c.args.out.now))

pub loop-end-preserved : goal.loop-end-preserved
loop-end-preserved c =
    let bounded = c.in-Some.ensures in
    (omega (arith, bounded.onward), run_more c.args.input.now c.new.result c.in-Some.field-0.end c.in-Some.field-0.next c.loop-end.invariant.1 bounded c.in_ok-answer.ensures)

pub returns : goal.returns
returns c = run_all c.args.input.now c.new.ensures c.loop-end.invariant.0 c.in_default.ensures c.loop-end.invariant.1
