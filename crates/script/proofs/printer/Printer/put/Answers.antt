use Rattle.std.proofs.Common.{refl, arith}
use Rattle.script.proofs.Writes.{wrote_cut}
use Rattle.script.proofs.printer.Printer.put.Goals as goal

pub returns : goal.returns
returns c =
    let was = c.args.self.now in
    record {
      same = refl;
      wrote = wrote_cut was.buffer.now c.args.bytes.now c.copy_from_slice.new.self was.at _ c.min-len.result was.inside c.copy_from_slice.ensures.after (omega arith) c.min-len.ensures;
    }
