use Rattle.std.proofs.Common.{◌-◌, ◌≤◌, length, vec_items}
use Rattle.stream.specs.Runs.{Appended, Run}
use Rattle.stream.proofs.answer_lines.Given as goal

abbrev pub invariant-loop-end : goal.invariant-loop-end
invariant-loop-end l =
    (l.from ≤ length l.input) ×
    Appended (Run l.input l.initial.speaker.session l.from l.speaker.session) (vec_items l.initial.out) (vec_items l.out)

abbrev pub decreases-loop-end : goal.decreases-loop-end
decreases-loop-end l = length l.initial.input - l.from
