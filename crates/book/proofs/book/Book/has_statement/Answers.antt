use Rattle.std.proofs.Common.{sym, ◌∙◌}
use Rattle.std.proofs.lemmas.Bool.Decides.{Decides-like}
use Rattle.book.specs.View.{said}
use Rattle.book.proofs.Tables.{full_map}
use Rattle.book.proofs.book.Book.has_statement.Goals as goal

pub returns : goal.returns
returns c =
    let same = full_map said c.args.self.now.tables.lines c.args.line in
    Decides-like c.filled.result (λ full. same ∙ full) (λ full. sym same ∙ full) c.filled.ensures
