use Rattle.std.proofs.Common.{◌-◌, ◌^◌}
use Rattle.facts.specs.Told.{told}
use Rattle.facts.specs.ClosureLemmas.{Reached}
use Rattle.facts.specs.Stepping.{ObeysAll}
use Rattle.facts.proofs.steps.asked.StepsFacts.follow.Given as goal

-- the set is on the way to the smallest one
abbrev pub invariant-loop-reached : goal.invariant-loop-reached
invariant-loop-reached g l = Reached (g.F.Facts.meaning l.self.below) (ObeysAll (told l.self)) l.set l.reached

abbrev pub decreases-loop-reached : goal.decreases-loop-reached
decreases-loop-reached g l = 2 ^ 64 - l.reached
