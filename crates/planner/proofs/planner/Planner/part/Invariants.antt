use Rattle.std.proofs.Common.{take}
use Rattle.laws.specs.World.{Parted}
use Rattle.planner.specs.View.{view}
use Rattle.planner.proofs.planner.Planner.part.Given as goal

-- the entries so far are parted
abbrev pub invariant-loop-entry : goal.invariant-loop-entry
invariant-loop-entry g l = Parted (view l.self).book (take l.entry-index l.entries) l.current l.gone
