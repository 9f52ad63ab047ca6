use Rattle.std.proofs.Common.{rules, tests}
use Rattle.std.proofs.lemmas.Iterator.{YieldsList-from_slice, cases_from_any}
use Rattle.book.proofs.Tables.{RowHas, RowLacks, any_row_has}
use Rattle.book.proofs.book.read.any_has.Goals as goal

pub returns : goal.returns
returns g c =
    let lines = g.R.OfLines.lines in
    let line = c.args.line in
    let rows = c.args.rows.now in
    any_row_has lines line rows c.any.result
    (cases_from_any _ _ c.any.result (RowHas lines line) (RowLacks lines line) c.any.ensures.ran (YieldsList-from_slice rows cc) (λ x q k. search (rules, tests)) (λ x q k. search (rules, tests)))
