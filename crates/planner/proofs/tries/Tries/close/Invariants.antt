use Rattle.std.proofs.Common.{◌-◌, ◌^◌}
use Rattle.facts.specs.ClosureLemmas.{Reached}
use Rattle.laws.specs.Menus.{Obeys}
use Rattle.planner.proofs.tries.Tries.close.Given as goal

-- the set is on the way to the smallest one
abbrev pub invariant-loop-set : goal.invariant-loop-set
invariant-loop-set g l = Reached (g.F.Facts.meaning l.self.facts.now) (Obeys l.self.rules.now l.guess) 0 l.set

abbrev pub decreases-loop-set : goal.decreases-loop-set
decreases-loop-set g l = 2 ^ 64 - l.set
