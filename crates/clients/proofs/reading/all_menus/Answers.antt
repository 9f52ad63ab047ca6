use Rattle.planner.specs.View.{view, facts_of}
use Rattle.clients.proofs.ReadingLaw.{read_by_calls}
use Rattle.clients.proofs.reading.all_menus.Goals as goal

pub returns : goal.returns
returns g c log run =
    let p = c.args.planner.now in
    read_by_calls (g.F.Facts.meaning (facts_of p)) (g.met.F.Facts.lawful (facts_of p)) (view p).number log (view p) run c.args.menus.now c.full_reading.new.menus c.full_reading.result c.full_reading.ensures.all c.full_reading.ensures.lists
