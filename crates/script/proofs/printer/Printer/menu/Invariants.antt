use Rattle.sets.proofs.Walking.{Walked}
use Rattle.book.specs.View.{view}
use Rattle.script.specs.Menus.{words_at, lines_below}
use Rattle.script.proofs.Listing.{Listed}
use Rattle.script.proofs.printer.Printer.menu.Given as goal

-- the words of the lines so far are printed
abbrev pub invariant-loop-line : goal.invariant-loop-line
invariant-loop-line l = Walked (λ k. Listed l.initial.self (words_at (view l.book)) l.self l.gap (lines_below l.set k)) l.set l.line-iterator.left
