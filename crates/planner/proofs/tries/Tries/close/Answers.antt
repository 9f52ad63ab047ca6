use Rattle.std.proofs.Common.{sym, subst, arith}
use Rattle.facts.specs.ClosureLemmas.{Reached, reached_start, reached_more, reached_done, reached_less}
use Rattle.laws.specs.Menus.{Obeys}
use Rattle.planner.proofs.Rounds.{closed_from}
use Rattle.planner.proofs.tries.Tries.close.Goals as goal

pub loop-set-init : goal.loop-set-init
loop-set-init g c =
    let f = c.args.self.now.facts.now in
    let obeys = Obeys c.args.self.now.rules.now c.args.guess in
    subst (Reached (g.F.Facts.meaning f) obeys 0) (sym c.args.self.now.from_nothing) (reached_start (g.F.Facts.meaning f) (g.met.F.Facts.lawful f) obeys 0 (omega arith))

pub returns-then-next-set : goal.returns-then-next-set
returns-then-next-set g c =
    let f = c.args.self.now.facts.now in
    let obeys = Obeys c.args.self.now.rules.now c.args.guess in
    closed_from c.args.self.now.rules.now c.args.guess (g.F.Facts.meaning f) _
    (reached_done (g.F.Facts.meaning f) (g.met.F.Facts.lawful f) obeys 0 _ _ _ c.loop-set.invariant c.turn-next.ensures.passed c.turn-next.ensures.followed c.if-next-set.true)

pub loop-set-smaller : goal.loop-set-smaller
loop-set-smaller g c =
    let f = c.args.self.now.facts.now in
    reached_less (g.F.Facts.meaning f) (g.met.F.Facts.lawful f) (Obeys c.args.self.now.rules.now c.args.guess) 0 _ _ _ c.loop-set.invariant c.turn-next.ensures.passed c.turn-next.ensures.followed c.if-next-set.false

pub loop-set-preserved : goal.loop-set-preserved
loop-set-preserved g c =
    let f = c.args.self.now.facts.now in
    reached_more (g.F.Facts.meaning f) (g.met.F.Facts.lawful f) (Obeys c.args.self.now.rules.now c.args.guess) 0 _ _ _ c.loop-set.invariant c.turn-next.ensures.passed c.turn-next.ensures.followed
