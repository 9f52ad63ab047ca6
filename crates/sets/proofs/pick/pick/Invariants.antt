use Rattle.sets.proofs.Picking.{Done}
use Rattle.sets.proofs.Walking.{Walked}
use Rattle.sets.proofs.pick.pick.Given as goal

-- the lines so far are decided
abbrev pub invariant-loop-line : goal.invariant-loop-line
invariant-loop-line l = Walked (λ k. Done l.from l.guess l.rest l.picked k) l.from l.line-iterator.left
