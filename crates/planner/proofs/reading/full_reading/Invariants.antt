use Rattle.std.proofs.Common.{◌≡◌, ◌-◌, ◌≤◌, length}
use Rattle.planner.specs.View.{view, facts_of}
use Rattle.planner.proofs.FullReading.{ReadTo}
use Rattle.planner.proofs.reading.full_reading.Given as goal

abbrev pub invariant-loop-from : goal.invariant-loop-from
invariant-loop-from g l = (length l.page ≡ 3) × (l.from ≤ l.total) × ReadTo (g.F.Facts.meaning (facts_of l.planner)) (view l.planner) l.initial.menus l.menus l.count l.from

abbrev pub decreases-loop-from : goal.decreases-loop-from
decreases-loop-from g l = l.total - l.from
