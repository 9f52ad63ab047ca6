use Rattle.std.proofs.Common.{◌≡◌, take, sym, ap, ◌∙◌, arith}
use Rattle.std.specs.List.{flat_map}
use Rattle.std.proofs.lemmas.List.{take_more, take_all}
use Rattle.book.specs.View.{view}
use Rattle.script.specs.Menus.{menu_text}
use Rattle.script.proofs.Lengths.{page_short}
use Rattle.script.proofs.Listing.{page_more, take_min}
use Rattle.script.proofs.Writes.{prints_none, prints_then, prints_as}
use Rattle.script.proofs.printer.Printer.listed.Goals as goal

pub loop-set-init : goal.loop-set-init
loop-set-init c = prints_none _

pub loop-set-preserved : goal.loop-set-preserved
loop-set-preserved c =
    let found = take c.min.result c.args.page.now in
    let text = menu_text (view c.args.book.now) in
    prints_as (ap (flat_map text) (sym (take_more found c.loop-set.set-index 0 (omega arith))))
    (page_more text _ _ c.loop-set.invariant c.menu.ensures)

pub returns-clause-wrote : goal.returns-clause-wrote
returns-clause-wrote c =
    let page = c.args.page.now in
    let found = take c.min.result page in
    let text = menu_text (view c.args.book.now) in
    let all : take c.loop-set.set-index found ≡ take c.args.listing.count page =
    take_all c.loop-set.set-index found c.loop-set-test.false ∙ (ap (λ n. take n page) c.min.ensures ∙ take_min c.args.listing.count page) in
    prints_then c.heading.ensures.wrote (prints_as (ap (flat_map text) all) c.loop-set.invariant)

pub returns-clause-short : goal.returns-clause-short
returns-clause-short c =
    page_short c.args.book.now c.args.page.now c.args.listing.count c.args.listing.next c.args.guesses c.heading.ensures.short
