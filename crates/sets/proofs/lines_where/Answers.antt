use Rattle.std.proofs.Common.{ℕ, ◌+◌, Bool, sym, subst, arith}
use Rattle.sets.proofs.Gathering.{GatheredBelow, gathered_none, gathered_more, gathered_same}
use Rattle.sets.proofs.lines_where.Goals as goal
use Rattle.sets.proofs.lines_where.Goals.{then-test, else-test}

pub loop-line-init : goal.loop-line-init
loop-line-init g c = gathered_none (λ n yes. goal.F-post g c.args.test n yes)

pub loop-line-preserved : goal.loop-line-preserved
loop-line-preserved g c =
    let P = λ (n : ℕ) (r : Bool). goal.F-post g c.args.test n r in
    let line = c.loop-line.line in
    elim c.if-test.branch [
      | then-test w ↦
          subst (GatheredBelow P (line + 1)) (sym w.all-is)
          (gathered_more P line c.loop-line.all w.with-all.result c.loop-line.invariant (subst (P line) w.if-test.true c.test.ensures) w.with-all.ensures.old (w.with-all.ensures.new (omega arith)) w.with-all.ensures.only)
      | else-test w ↦
          subst (GatheredBelow P (line + 1)) (sym w.all-is)
          (gathered_same P line c.loop-line.all c.loop-line.invariant (subst (P line) w.if-test.false c.test.ensures))
    ]

pub returns-clause-has : goal.returns-clause-has
returns-clause-has g c n h = let m = c.loop-line.invariant.0 n h in (omega (arith, m.0), m.1)

pub returns-clause-lacks : goal.returns-clause-lacks
returns-clause-lacks g c n l out = c.loop-line.invariant.1 n (omega arith) out
