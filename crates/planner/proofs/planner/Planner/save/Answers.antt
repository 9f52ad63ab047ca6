use Rattle.std.proofs.Common.{sym, ◌∙◌, refl, subst}
use Rattle.record.specs.Record.{Good}
use Rattle.book.specs.Saved.{EntriesOf}
use Rattle.laws.specs.World.{Save}
use Rattle.planner.specs.View.{view, token}
use Rattle.planner.proofs.Saves.{save_answers}
use Rattle.planner.proofs.planner.Planner.save.Goals as goal

pub returns : goal.returns
returns g c =
    let w = view c.args.self.now in
    let hold = token c.args.hold.now in
    let lines = c.in_ok-lines.lines in
    let is = c.in_ok-lines.ensures.ok_part in
    let es = c.as_slice.result.now in
    let of = subst (EntriesOf w.book lines) (sym c.as_slice.ensures) c.entries-entries.ensures.of in
    let good = subst (Good w.book.next) (sym c.as_slice.ensures) c.entries-entries.ensures.good in
    let answers = save_answers w hold c.if-hold-self.false lines (sym is ∙ c.held.ensures.lines) (λ n h. c.held.ensures.written lines n is h) es of c.args.buffer.now _ c.write.result c.write.ensures.writes (c.write.ensures.good w.book.next c.entries-entries.ensures.next good) in
    (refl, subst (Save w hold c.args.buffer.now c.write.new.buffer) (sym c.ok_or-2.ensures.value) answers)
