use Rattle.std.proofs.lemmas.Bool.Decides.{Decides-like}
use Rattle.book.proofs.Keeping.{held_from, held_has}
use Rattle.book.proofs.book.Book.is_held.Goals as goal

pub returns : goal.returns
returns c =
    let b = c.args.self.now in
    Decides-like c.any_has.result (held_from b.tables c.args.line b.holds_distinct) (held_has b.tables c.args.line) c.any_has.ensures
