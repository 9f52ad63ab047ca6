use Rattle.std.proofs.Common.{ℕ, ◌+◌, ◌<◌, List, length, sym, refl, subst, subst₂, arith}
use Rattle.laws.specs.Laws.{Found}
use Rattle.planner.specs.Tries.{Reading}
use Rattle.planner.proofs.Trying.{reading_start, reading_found, reading_missed}
use Rattle.planner.proofs.tries.Tries.read.Goals as goal
use Rattle.planner.proofs.tries.Tries.read.Goals.{in-Some, in_default}

pub loop-number-init : goal.loop-number-init
loop-number-init g c =
    let tries = c.args.self.now in
    reading_start (Found (g.F.Facts.meaning tries.facts.now) tries.rules.now tries.unless) c.args.from c.args.total c.args.page.now c.requires

pub loop-number-preserved : goal.loop-number-preserved
loop-number-preserved g c =
    let tries = c.args.self.now in
    let F = Found (g.F.Facts.meaning tries.facts.now) tries.rules.now tries.unless in
    let at = c.loop-number.invariant in
    let room : c.loop-number.count < length c.loop-number.page = omega (arith, at.fits, at.same_length, c.if-count-page.false) in
    let next = λ (page : List ℕ) (count : ℕ). Reading F c.args.from c.args.total c.args.page.now page count (c.loop-number.number + 1) in
    elim c.match-find.branch [
      | in-Some w ↦ subst₂ next (sym w.page-is) (sym w.count-is) (reading_found F c.args.from c.args.total c.args.page.now c.loop-number.page c.loop-number.count c.loop-number.number at room c.loop-number-test.true w.in-Some.lines w.in-Some.ensures)
      | in_default w ↦ subst₂ next (sym w.page-is) (sym w.count-is) (reading_missed F c.args.from c.args.total c.args.page.now c.loop-number.page c.loop-number.count c.loop-number.number at room c.loop-number-test.true w.in_default.ensures)
    ]

pub returns : goal.returns
returns g c =
    let tries = c.args.self.now in
    let F = Found (g.F.Facts.meaning tries.facts.now) tries.rules.now tries.unless in
    record {
      reading = subst (Reading F c.args.from c.args.total c.args.page.now c.loop-number.page c.loop-number.count) (omega (arith, c.loop-number.invariant.upto)) c.loop-number.invariant;
      goes_on = λ _. refl;
    }
