use Rattle.std.proofs.Common.{◌≡◌, ℕ, [], codes, rules, sym, subst}
use Rattle.sets.proofs.Walking.{Walked, walk_start, walk_to, walk_on, walk_end}
use Rattle.book.specs.View.{view}
use Rattle.script.specs.Menus.{words_at, lines_below, menu_text}
use Rattle.script.proofs.Listing.{Listed, listed_none, listed_more, listed_same}
use Rattle.script.proofs.Writes.{prints_then}
use Rattle.script.proofs.printer.Printer.menu.Goals as goal

pub loop-line-init : goal.loop-line-init
loop-line-init c =
    let set = c.args.set in
    let words = words_at (view c.args.book.now) in
    let was = c.args.self.now in
    let so = λ (k : ℕ). Listed was words was [] (lines_below set k) in
    let all : c.into_iter-line-iterator.result.left ≡ set = search rules in
    subst (Walked so set) (sym all) (walk_start so set (listed_none was words set))

pub loop-line-preserved : goal.loop-line-preserved
loop-line-preserved c =
    let set = c.args.set in
    let words = words_at (view c.args.book.now) in
    let was = c.args.self.now in
    let is = c.loop-line.self in
    let gap = c.loop-line.gap.now in
    let line = c.in-Some.line in
    let so = λ (k : ℕ). Listed was words is gap (lines_below set k) in
    let at = walk_to so set (listed_same was is gap words set) _ line _ c.loop-line.invariant c.in-Some.ensures.steps in
    let more = listed_more words set line at.1 at.0 c.put.ensures c.words.ensures in
    walk_on so (λ k. Listed was words c.words.new.self (codes " ") (lines_below set k)) set _ line _ c.ranges.set.fits c.loop-line.invariant c.in-Some.ensures.steps more

pub returns : goal.returns
unfolding menu_text
returns c =
    let set = c.args.set in
    let words = words_at (view c.args.book.now) in
    let so = λ (k : ℕ). Listed c.args.self.now words c.loop-line.self c.loop-line.gap.now (lines_below set k) in
    let all = walk_end so set (listed_same c.args.self.now c.loop-line.self c.loop-line.gap.now words set) _ _ c.loop-line.invariant c.in-None.ensures.steps in
    prints_then all.0 c.put-2.ensures
