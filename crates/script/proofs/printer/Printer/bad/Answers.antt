use Rattle.std.proofs.Common.{codes, arith}
use Rattle.script.proofs.Lengths.{counted_short}
use Rattle.script.proofs.printer.Printer.bad.Goals as goal

pub returns : goal.returns
returns c = record { printed = c.count.ensures; short = counted_short (codes "bad ") c.args.place (omega arith) (omega arith) }
