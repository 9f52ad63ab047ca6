use Rattle.std.proofs.Common.{refl, subst, subst₂}
use Rattle.std.proofs.lemmas.Bool.Decides.{not_from_Decides, Decides-eqb}
use Rattle.sets.specs.Sets.{Smallest}
use Rattle.sets.proofs.Lines.{smallest_same}
use Rattle.laws.specs.Menus.{Closed}
use Rattle.planner.proofs.planner.Planner.stands.Goals as goal

pub returns : goal.returns
returns g c =
    let p = c.args.self.now in
    let m = g.F.Facts.meaning p.facts in
    let set = c.args.set in
    let least = subst₂ (λ f rules. Smallest (Closed (g.F.Facts.meaning f) rules set) c.close-least.result) c.new.ensures.facts c.new.ensures.rules c.close-least.ensures in
    let decides = Decides-eqb c.close-least.result set in (
      refl,
      (
        (not_from_Decides c.facts_name_empty.result c.facts_name_empty.ensures c.if-facts_name_empty.false, tt),
        (λ yes. subst (Smallest (Closed m _ set)) (decides.0 yes) least, λ menu. decides.1 (smallest_same (Closed m _ set) c.close-least.result set least menu)),
      ),
    )
