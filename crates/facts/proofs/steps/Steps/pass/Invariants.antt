use Rattle.std.proofs.Common.{◌≤◌, length, take}
use Rattle.facts.specs.Closure.{Passed}
use Rattle.facts.specs.Stepping.{ObeysAll}
use Rattle.facts.proofs.steps.Steps.pass.Given as goal

-- the steps so far were passed over
abbrev pub invariant-loop-step : goal.invariant-loop-step
invariant-loop-step g l = (l.step-index ≤ length l.step-items) × Passed (ObeysAll (take l.step-index l.step-items)) l.initial.set l.set
