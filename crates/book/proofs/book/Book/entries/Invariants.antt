use Rattle.record.specs.Record.{listed}
use Rattle.sets.proofs.Walking.{Walked}
use Rattle.book.specs.View.{view}
use Rattle.book.proofs.Saving.{Gathered}
use Rattle.book.proofs.book.Book.entries.Given as goal

-- the entries of the lines so far
abbrev pub invariant-loop-line : goal.invariant-loop-line
invariant-loop-line l = Walked (λ k. Gathered (view l.self) l.lines k (listed l.entries)) l.lines l.line-iterator.left
