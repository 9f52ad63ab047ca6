use Rattle.std.proofs.Common.{codes, sym, ap, arith}
use Rattle.script.specs.Texts.{written_text}
use Rattle.script.proofs.Lengths.{counted_short}
use Rattle.script.proofs.Writes.{says_as}
use Rattle.script.proofs.printer.Printer.written.Goals as goal

pub returns-in-Ok : goal.returns-in-Ok
returns-in-Ok c =
    says_as (sym (ap written_text c.in-Ok.is))
    record { printed = c.count.ensures; short = counted_short (codes "number ") c.in-Ok.value (omega arith) (omega arith) }
