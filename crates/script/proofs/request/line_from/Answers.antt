use Rattle.std.proofs.Common.{rules, tests}
use Rattle.script.proofs.SetReads.{line_read}
use Rattle.script.proofs.request.line_from.Goals as goal

pub returns : goal.returns
returns c =
    let read = c.in_ok-line.ensures in
    rw c.then_some.ensures (line_read c.args.item.now c.args.least c.in_ok-line.line c.contains.result read.0 read.1 (λ h. search (rules, tests)) (λ h low high. search (rules, tests)))
