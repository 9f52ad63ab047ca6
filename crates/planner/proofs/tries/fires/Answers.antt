use lib.Bits.{bit_and}
use Rattle.std.proofs.Common.{eqb}
use Rattle.std.proofs.lemmas.Bool.Decides.{Decides-and}
use Rattle.planner.proofs.Rounds.{open_decides}
use Rattle.planner.proofs.tries.fires.Goals as goal

pub returns : goal.returns
returns c = Decides-and (eqb (bit_and c.args.rule.now.unless c.args.guess) 0) c.within.result (open_decides c.args.rule.now c.args.guess) c.within.ensures
