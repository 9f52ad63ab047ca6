use Rattle.std.proofs.Common.{length, drop}
use Rattle.std.specs.List.{slice_split}
use Rattle.script.proofs.Items.{ReadSoFar, is_comma}
use Rattle.script.proofs.request.lines.Given as goal

abbrev pub invariant-loop-item : goal.invariant-loop-item
invariant-loop-item l = ReadSoFar l.field l.lines l.least (drop (length l.yielded) (slice_split is_comma l.field))
