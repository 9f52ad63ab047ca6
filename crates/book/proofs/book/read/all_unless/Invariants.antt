use Rattle.std.proofs.Common.{◌≡◌, drop}
use lib.Bits.{bit_or}
use Rattle.book.specs.Rows.{unless_lines}
use Rattle.book.proofs.book.read.all_unless.Given as goal

-- the lines so far, with those of the rules that are left, are all of them
abbrev pub invariant-loop-row : goal.invariant-loop-row
invariant-loop-row l = bit_or l.all (unless_lines (drop l.row-index l.rules)) ≡ unless_lines l.rules
