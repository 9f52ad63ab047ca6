use Rattle.std.proofs.Common.{◌≡◌, ◌≤◌, length, None, rules, sym, ap, ◌∙◌}
use Rattle.std.specs.Option.{option_map}
use Rattle.std.proofs.lemmas.List.{get_or_past}
use Rattle.book.specs.Rows.{at}
use Rattle.book.specs.View.{said}
use Rattle.sets.proofs.Rows.{no_some}
use Rattle.book.proofs.Tables.{at_map}
use Rattle.book.proofs.book.Book.statement.Goals as goal

pub returns : goal.returns
returns c =
    let b = c.args.self.now in
    let here : c.in_ok-get.field-0.now ≡ at b.tables.lines c.args.line = search rules in
    record { said = ap (option_map said) here ∙ sym (at_map said b.tables.lines c.args.line); worded = λ row e. b.worded c.args.line row (sym here ∙ e) }

pub returns-in_err-get : goal.returns-in_err-get
returns-in_err-get c =
    let rows = c.args.self.now.tables.lines in
    let past : length rows ≤ c.args.line = search rules in
    let none : c.from_residual.result ≡ None = search rules in
    record { said = ap (option_map said) none ∙ sym (at_map said rows c.args.line ∙ ap (option_map said) (get_or_past rows c.args.line None past)); worded = λ row e. absurd (no_some (sym none ∙ e)) }
