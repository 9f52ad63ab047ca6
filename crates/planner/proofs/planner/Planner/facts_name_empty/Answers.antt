use Rattle.std.proofs.Common.{Decides, subst}
use Rattle.book.specs.Rows.{AnyVacant}
use Rattle.planner.specs.View.{view}
use Rattle.planner.proofs.planner.Planner.facts_name_empty.Goals as goal

pub returns : goal.returns
returns g c = subst (λ s. Decides c.any_vacant.result (AnyVacant (view c.args.self.now).book.lines s)) c.names.ensures c.any_vacant.ensures
