use Rattle.std.proofs.Common.{refl, ap}
use Rattle.laws.proofs.MenuLaws.{menu_laws}
use Rattle.laws.proofs.Lawful.{law_kept}
use Rattle.planner.proofs.planner.Planner.new.Goals as goal

pub returns : goal.returns
returns g c =
    let m = g.F.Facts.meaning c.args.facts in
    let lawful = g.met.F.Facts.lawful c.args.facts in
    record {
      made = ap (λ b. record { number = c.args.number; book = b }) c.new.ensures;
      facts = refl;
      menus = menu_laws m lawful;
      law = law_kept m lawful c.args.number;
    }
