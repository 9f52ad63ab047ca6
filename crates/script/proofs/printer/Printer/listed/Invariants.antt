use Rattle.std.proofs.Common.{take}
use Rattle.std.specs.List.{flat_map}
use Rattle.book.specs.View.{view}
use Rattle.script.specs.Menus.{menu_text}
use Rattle.script.specs.Writing.{Prints}
use Rattle.script.proofs.printer.Printer.listed.Given as goal

abbrev pub invariant-loop-set : goal.invariant-loop-set
invariant-loop-set l =
    Prints l.initial.self (flat_map (menu_text (view l.book)) (take l.set-index l.set-items)) l.self
