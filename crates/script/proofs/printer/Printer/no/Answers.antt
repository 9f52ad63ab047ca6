use Rattle.std.proofs.Common.{codes, ap, arith}
use Rattle.script.specs.Texts.{counted}
use Rattle.script.proofs.Lengths.{counted_short}
use Rattle.script.proofs.Writes.{says_as}
use Rattle.script.proofs.printer.Printer.no.Goals as goal

pub returns : goal.returns
returns c =
    says_as (ap (counted (codes "no ")) c.number.ensures)
    record { printed = c.count.ensures; short = counted_short (codes "no ") c.number.result (omega arith) (omega arith) }
