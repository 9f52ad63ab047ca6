use Rattle.std.proofs.Common.{arith}
use Rattle.sets.proofs.Lines.{smallest_same}
use Rattle.facts.specs.Steps.{Closed, Follows}
use Rattle.facts.specs.Told.{told}
use Rattle.facts.specs.ClosureLemmas.{reached_done, reached_less}
use Rattle.facts.specs.Stepping.{ObeysAll, told_are, follows_from, stepped_follows}
use Rattle.facts.proofs.steps.asked.StepsFacts.follow.Goals as goal

pub returns-then-next-reached : goal.returns-then-next-reached
returns-then-next-reached g c =
    let f = c.args.self.now in
    let m = g.F.Facts.meaning f.below in
    let lawful = g.met.F.Facts.lawful f.below in
    let least : Follows m (told f) c.args.set c.loop-reached.reached =
    follows_from m lawful (told f) (told_are f) c.args.set _ (reached_done m lawful (ObeysAll (told f)) c.args.set _ _ _ c.loop-reached.invariant c.pass.ensures c.follow-next.ensures c.if-next-reached.true) in
    record {
      computed = smallest_same (Closed m (told f) c.args.set) _ _ least (stepped_follows m lawful (told f) (told_are f) c.args.set (omega arith));
      smallest = least;
      every = stepped_follows m lawful (told f) (told_are f);
    }

pub loop-reached-smaller : goal.loop-reached-smaller
loop-reached-smaller g c =
    let f = c.args.self.now in
    reached_less (g.F.Facts.meaning f.below) (g.met.F.Facts.lawful f.below) (ObeysAll (told f)) c.args.set _ _ _ c.loop-reached.invariant c.pass.ensures c.follow-next.ensures c.if-next-reached.false
