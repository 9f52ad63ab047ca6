use Rattle.facts.specs.Closure.{Passed}
use Rattle.planner.proofs.Rounds.{ObeysBelow}
use Rattle.planner.proofs.tries.Tries.round.Given as goal

-- the rules so far were gone through
abbrev pub invariant-loop-row : goal.invariant-loop-row
invariant-loop-row g l = Passed (ObeysBelow l.self.rules.now l.guess l.row-index) l.initial.set l.set
