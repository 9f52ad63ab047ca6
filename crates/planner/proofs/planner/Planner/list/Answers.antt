use Rattle.std.proofs.Common.{refl, subst₂, arith}
use Rattle.std.proofs.lemmas.Bool.Decides.{not_from_Decides}
use Rattle.laws.specs.Laws.{Found}
use Rattle.laws.specs.World.{rules_of, guessed_of}
use Rattle.planner.specs.Tries.{Stopped}
use Rattle.planner.specs.View.{view}
use Rattle.planner.proofs.Pages.{page_from}
use Rattle.planner.proofs.planner.Planner.list.Goals as goal

pub returns : goal.returns
returns g c =
    let p = c.args.self.now in
    let m = g.F.Facts.meaning p.facts in
    let from = c.args.from in
    let tries = c.new.result in
    let own = subst₂ (λ rules unless. Stopped (Found (g.F.Facts.meaning tries.facts.now) rules unless) from c.guesses-total.result c.args.page.now c.read.new.page c.read.result.count c.read.result.next) c.new.ensures.rules c.new.ensures.unless c.read.ensures in
    let stopped = subst₂ (λ f total. Stopped (Found (g.F.Facts.meaning f) (rules_of (view p)) (guessed_of (view p))) from total c.args.page.now c.read.new.page c.read.result.count c.read.result.next) c.new.ensures.facts c.guesses-total.ensures.count own in (
      refl,
      (
        (not_from_Decides c.facts_name_empty.result c.facts_name_empty.ensures c.if-facts_name_empty.false, (omega (arith, c.guesses-total.ensures.count), tt)),
        page_from m (view p) c.guesses-total.ensures.lines from c.args.page.now c.read.new.page c.read.result.count c.read.result.next stopped,
      ),
    )
