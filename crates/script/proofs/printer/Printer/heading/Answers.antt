use Rattle.std.proofs.Common.{arith}
use Rattle.script.proofs.Lengths.{heading_short}
use Rattle.script.proofs.Writes.{prints_then}
use Rattle.script.proofs.printer.Printer.heading.Goals as goal

pub returns-clause-wrote : goal.returns-clause-wrote
returns-clause-wrote c =
    prints_then c.put.ensures
    (prints_then c.number.ensures (prints_then c.put-2.ensures (prints_then c.number-2.ensures c.count.ensures)))

pub returns-clause-short : goal.returns-clause-short
returns-clause-short c = heading_short c.args.menus c.args.next c.args.guesses (omega arith) (omega arith) (omega arith)
