use Rattle.std.proofs.Common.{◌≡◌, length, Ok, Err, refl, ap, ◌∙◌, arith}
use Rattle.book.specs.View.{view as book-view}
use Rattle.planner.specs.View.{view}
use Rattle.script.specs.Answering.{page_text}
use Rattle.script.specs.Menus.{listed_text}
use Rattle.script.specs.Texts.{no_text}
use Rattle.script.proofs.Lengths.{short_as}
use Rattle.script.proofs.Sayings.{said}
use Rattle.script.proofs.Writes.{prints_as}
use Rattle.script.proofs.session.list.Goals as goal

pub returns-in-Ok : goal.returns-in-Ok
returns-in-Ok c =
    let planner = c.args.planner.now in
    let page = c.list.new.page in
    let found = c.in-Ok.listing in
    let full : length page ≡ 16 = c.list.auto.page in
    let e =
    ap (λ b. listed_text (book-view b) page found.count found.next c.guesses.result) c.book.ensures
    ∙ ap (λ g. listed_text (view planner).book page found.count found.next g) c.guesses.ensures.count in
    record {
      text = page_text planner page (Ok found);
      so = record { page = page; result = Ok found; full = full; call = c.in-Ok.ensures; says = refl };
      short = short_as e (c.listed.ensures.short (omega arith));
      printed = prints_as e c.listed.ensures.wrote;
    }

pub returns-in-Err : goal.returns-in-Err
returns-in-Err c =
    let page = c.list.new.page in
    let full : length page ≡ 16 = c.list.auto.page in
    said (no_text c.in-Err.refusal) record { page = page; result = Err c.in-Err.refusal; full = full; call = c.in-Err.ensures; says = refl } c.no.ensures
