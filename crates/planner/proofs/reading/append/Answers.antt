use Rattle.std.proofs.Common.{◌≡◌, length, refl, ◌∙◌, arith}
use Rattle.std.proofs.lemmas.List.{take_all}
use Rattle.planner.proofs.FullReading.{added_pasted, appended_from_added}
use Rattle.planner.proofs.reading.append.Goals as goal

pub returns-clause-added : goal.returns-clause-added
returns-clause-added c room =
    let before = c.args.menus.now in
    let found = c.args.found.now in
    let start : c.min-start.result ≡ c.args.count = omega (arith, c.min-start.ensures) in
    let len : c.min-len.result ≡ length found = omega (arith, c.min-len.ensures, start) in
    let pasted : c.copy_from_slice.new.self ≡ found = c.copy_from_slice.ensures.after ∙ take_all c.min-len.result found (omega arith) in
    rw start (rw len (rw pasted (added_pasted before c.args.count (length found) found room refl)))

pub returns-clause-appended : goal.returns-clause-appended
returns-clause-appended c room = appended_from_added c.args.menus.now c.args.count c.args.found.now _ _ room (returns-clause-added c room)
