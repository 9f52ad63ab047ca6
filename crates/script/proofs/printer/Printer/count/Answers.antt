use Rattle.script.proofs.Writes.{prints_then}
use Rattle.script.proofs.printer.Printer.count.Goals as goal

pub returns : goal.returns
returns c = prints_then c.put.ensures (prints_then c.number.ensures c.put-2.ensures)
