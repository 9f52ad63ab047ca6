use Rattle.std.proofs.Common.{◌≡◌, ◌≤◌, ◌++◌, length, drop}
use Rattle.std.specs.List.{flat_map}
use Rattle.record.specs.Record.{front_bytes, layout, listed, Good}
use Rattle.record.proofs.Rises.{after}
use Rattle.record.proofs.read.read.Given as goal

-- the bytes so far are those of good entries
abbrev pub invariant-loop-rest : goal.invariant-loop-rest
invariant-loop-rest l =
    (drop front_bytes l.bytes ≡ flat_map layout (listed l.entries) ++ l.rest)
    × Good l.next (listed l.entries)
    × (l.least ≡ after 0 (listed l.entries))
    × (l.least ≤ 64)

abbrev pub decreases-loop-rest : goal.decreases-loop-rest
decreases-loop-rest l = length l.rest
