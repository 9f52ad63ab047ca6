use Rattle.std.proofs.Common.{◌≡◌, ◌+◌, ◌*◌, ◌++◌, take, drop}
use Rattle.std.specs.List.{flat_map}
use Rattle.record.specs.Record.{entry_bytes, front_bytes, layout}
use Rattle.record.proofs.write.put_entries.Given as goal

-- the entries so far are placed
abbrev pub invariant-loop-i : goal.invariant-loop-i
invariant-loop-i l = l.buffer ≡ take front_bytes l.initial.buffer ++ (flat_map layout (take l.i l.entries) ++ drop (front_bytes + entry_bytes * l.i) l.initial.buffer)
