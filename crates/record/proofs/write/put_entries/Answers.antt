use Rattle.std.proofs.Common.{◌∙◌, arith}
use Rattle.record.proofs.Placing.{placed_more}
use Rattle.record.proofs.write.put_entries.Goals as goal

pub loop-i-preserved : goal.loop-i-preserved
loop-i-preserved c =
    c.put.ensures ∙ placed_more c.args.buffer.now c.loop-i.buffer c.args.entries.now c.loop-i.i _ _ (omega arith) c.loop-i-test.true c.requires.room c.loop-i.invariant
