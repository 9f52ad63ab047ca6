use Rattle.std.proofs.Common.{get_or, arith}
use Rattle.facts.specs.Steps.{no_step}
use Rattle.facts.specs.Stepping.{pass_more, passed_step}
use Rattle.facts.proofs.steps.Steps.pass.Goals as goal

pub loop-step-preserved : goal.loop-step-preserved
loop-step-preserved g c =
    let steps = c.as_slice-step-items.result.now in
    let i = c.loop-step.step-index in (
      omega arith,
      pass_more steps i c.args.set c.loop-step.set c.fire-set.result c.loop-step-test.true c.loop-step.invariant.1 (passed_step (get_or steps i no_step) c.loop-step.set c.fire-set.result c.fire-set.type_inv c.fire-set.ensures),
    )
