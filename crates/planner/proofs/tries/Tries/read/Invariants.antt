use Rattle.laws.specs.Laws.{Found}
use Rattle.planner.specs.Tries.{Reading}
use Rattle.planner.proofs.tries.Tries.read.Given as goal

abbrev pub invariant-loop-number : goal.invariant-loop-number
invariant-loop-number g l = Reading (Found (g.F.Facts.meaning l.self.facts.now) l.self.rules.now l.self.unless) l.from l.total l.initial.page l.page l.count l.number
