use Rattle.sets.proofs.Gathering.{GatheredBelow}
use Rattle.sets.proofs.lines_where.Given as goal

-- the lines so far for which the test says yes
abbrev pub invariant-loop-line : goal.invariant-loop-line
invariant-loop-line g l = GatheredBelow (λ n yes. goal.F-post g l.test n yes) l.line l.all
