use Rattle.std.proofs.Common.{◌≡◌, length, take, refl, ◌∙◌, arith}
use Rattle.std.proofs.lemmas.List.{length-take-le}
use Rattle.laws.proofs.ReadingParts.{page_rises}
use Rattle.planner.specs.View.{view, facts_of}
use Rattle.planner.proofs.FullReading.{to_none, to_more, to_all, complete_from}
use Rattle.planner.proofs.reading.full_reading.Goals as goal

pub loop-from-init : goal.loop-from-init
loop-from-init g c =
    let p = c.args.planner.now in
    (refl, omega arith, to_none (g.F.Facts.meaning (facts_of p)) (view p) c.guesses-total.ensures.lines c.args.menus.now)

pub loop-from-preserved : goal.loop-from-preserved
loop-from-preserved g c =
    let p = c.args.planner.now in
    let answer = c.in_ok-found.field-0 in
    let page = c.list.new.page in
    let step = c.in_ok-found.ensures in
    let listed = step.1.1 in
    let at = c.loop-from.invariant.2 in
    let long : length (take answer.count page) ≡ answer.count = length-take-le answer.count page (omega arith) in (
      listed.same_length ∙ c.loop-from.invariant.0,
      omega arith,
      to_more (g.F.Facts.meaning (facts_of p)) (view p) c.guesses-total.ensures.lines c.args.menus.now c.loop-from.menus c.loop-from.count c.loop-from.from c.loop-from.page page answer c.append-count.new.menus c.append-count.result
          (omega arith) step (c.append-count.ensures.added (omega (arith, long))) at,
    )

pub loop-from-smaller : goal.loop-from-smaller
loop-from-smaller g c =
    let p = c.args.planner.now in
    let listed = c.in_ok-found.ensures.1.1 in
    let rises = page_rises (g.F.Facts.meaning (facts_of p)) (view p) c.loop-from.from c.loop-from.page _ _ _ (omega arith) (omega arith) listed in
    omega arith

pub returns : goal.returns
returns g c =
    let p = c.args.planner.now in
    let at = c.loop-from.invariant.2 in
    let made = to_all (g.F.Facts.meaning (facts_of p)) (view p) c.guesses-total.ensures.lines c.args.menus.now c.loop-from.menus c.loop-from.count c.loop-from.from (omega arith) at in
    record {
      all = ((c.in_ok-stands.ensures.1.0.0, (omega arith, tt)), complete_from _ _ _ _ _ (omega arith) at.same_length at.stays made.exactly_menus);
      lists = made;
    }
