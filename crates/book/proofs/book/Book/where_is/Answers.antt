use Rattle.std.proofs.Common.{sym, refl, ◌∙◌, subst}
use Rattle.book.specs.Calls.{Where}
use Rattle.book.specs.View.{said, view}
use Rattle.book.proofs.Tables.{at_map_map}
use Rattle.book.proofs.Words.{where_one, where_zero}
use Rattle.book.proofs.book.Book.where_is.Goals as goal

pub returns : goal.returns
returns c =
    let b = c.args.self.now in
    let here = at_map_map (λ s. s.number) said b.tables.lines c.in_ok-line.line ∙ c.in_ok-line.ensures.1 in
    record { here = here; one = where_one b c.args.number; not_zero = λ zero. absurd (where_zero b c.in_ok-line.line c.args.number zero here) }

pub returns-in_err-line : goal.returns-in_err-line
returns-in_err-line c =
    let b = c.args.self.now in
    subst (Where (view b) c.args.number) (sym c.from_residual.ensures)
    (record {
      here = λ line e. c.in_err-line.ensures line (sym (at_map_map (λ s. s.number) said b.tables.lines line) ∙ e);
      one = where_one b c.args.number;
      not_zero = λ _. refl;
    })
