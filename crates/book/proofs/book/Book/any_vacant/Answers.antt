use Rattle.std.proofs.lemmas.Bool.Decides.{Decides-not, Decides-like}
use Rattle.sets.proofs.Lines.{outside_from_not_within}
use Rattle.book.proofs.book.Book.any_vacant.Goals as goal

-- a line that is not among the written ones is empty
pub returns : goal.returns
returns c =
    let lines = c.written.ensures in
    Decides-like _ (λ out. let line = outside_from_not_within c.args.lines c.written.result out in (line.0, line.1, λ full. line.2 ((lines line.0).1 full))) (λ line all. line.2 ((lines line.0).0 (all line.0 line.1))) (Decides-not c.within.result c.within.ensures)
