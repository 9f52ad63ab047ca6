use Rattle.std.proofs.lemmas.Bool.Decides.{Decides-eqb, Decides-like}
use Rattle.sets.proofs.Lines.{within_from_and, and_from_within}
use Rattle.sets.proofs.within.Goals as goal

pub returns : goal.returns
returns c =
    Decides-like _ (within_from_and c.args.part c.args.whole) (and_from_within c.args.part c.args.whole) (Decides-eqb _ c.args.part)
