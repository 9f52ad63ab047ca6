use Rattle.std.proofs.Common.{None, refl, arith}
use Rattle.record.proofs.Layouts.{length_layouts}
use Rattle.record.proofs.Placing.{written_from}
use Rattle.record.proofs.write.write.Goals as goal

pub returns-then-not-storable : goal.returns-then-not-storable
returns-then-not-storable c =
    let b = c.args.buffer.now in
    written_from c.args.entries.now b b None (λ s room. cc (c.if-not-storable.ensures.1 s), refl)

pub returns-then-buffer-total : goal.returns-then-buffer-total
returns-then-buffer-total c =
    let es = c.args.entries.now in
    let b = c.args.buffer.now in
    written_from es b b None (λ s room. omega (arith, length_layouts es), refl)
