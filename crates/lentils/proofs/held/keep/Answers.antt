use Rattle.planner.specs.View.{token}
use Rattle.lentils.proofs.Holding.{out_taken, out_struck, out_unruled}
use Rattle.lentils.proofs.held.keep.Goals as goal

-- the hold is out from the first call on, through two strikes and an unrule
pub give_back-requires : goal.give_back-requires
give_back-requires g c =
    let hold = token c.in_ok-hold.hold in
    let first = c.strike-first_strike.ensures.step in
    let unrule = c.unrule-unruled.ensures.step in
    let second = c.strike-second_strike.ensures.step in
    let taken = out_taken _ _ _ c.args.menu hold c.in_ok-hold.ensures.step in
    let struck = out_struck _ _ hold taken first.0 _ _ _ first.1 in
    let unruled = out_unruled _ _ hold struck unrule.0 _ _ unrule.1 in
    out_struck _ _ hold unruled second.0 _ _ _ second.1
