use Rattle.std.proofs.Common.{◌≡◌, ℕ, rules, sym, subst}
use Rattle.sets.proofs.Lines.{has_below}
use Rattle.sets.proofs.Picking.{Done, done_none, done_pass, done_take, done_all}
use Rattle.sets.proofs.Walking.{Walked, walk_start, walk_to, walk_on, walk_end}
use Rattle.sets.proofs.pick.pick.Goals as goal

pub loop-line-init : goal.loop-line-init
loop-line-init c =
    let from = c.args.from in
    let guess = c.args.guess in
    let so = λ (k : ℕ). Done from guess guess 0 k in
    let all : c.into_iter-line-iterator.result.left ≡ from = search rules in
    subst (Walked so from) (sym all) (walk_start so from (done_none from guess))

pub overflow_shl-picked : goal.overflow_shl-picked
overflow_shl-picked c = has_below c.loop-line.line-iterator.left c.in-Some.line c.loop-line.line-iterator.fits c.in-Some.ensures.steps.0

pub loop-line-preserved : goal.loop-line-preserved
loop-line-preserved c =
    let from = c.args.from in
    let guess = c.args.guess in
    let rest = c.loop-line.rest in
    let picked = c.loop-line.picked in
    let line = c.in-Some.line in
    let so = λ (k : ℕ). Done from guess rest picked k in
    let at = walk_to so from (done_pass from guess rest picked) _ line _ c.loop-line.invariant c.in-Some.ensures.steps in
    walk_on so (λ k. Done from guess _ _ k) from _ line _ c.ranges.from.fits c.loop-line.invariant c.in-Some.ensures.steps (done_take from guess rest picked line c.ranges.from.fits at.0 at.1)

pub returns : goal.returns
returns c =
    let from = c.args.from in
    let guess = c.args.guess in
    let rest = c.loop-line.rest in
    let picked = c.loop-line.picked in
    done_all from guess rest picked c.ranges.from.fits (walk_end (λ k. Done from guess rest picked k) from (done_pass from guess rest picked) _ _ c.loop-line.invariant c.in-None.ensures.steps)
