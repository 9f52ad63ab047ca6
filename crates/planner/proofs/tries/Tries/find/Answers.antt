use Rattle.std.proofs.Common.{subst}
use Rattle.std.proofs.lemmas.Bool.Decides.{Decides-eqb}
use lib.Bits.{bit_and}
use Rattle.sets.specs.Picks.{Picks}
use Rattle.planner.proofs.Rounds.{found_if}
use Rattle.planner.proofs.tries.Tries.find.Goals as goal

pub returns : goal.returns
returns g c =
    let tries = c.args.self.now in
    let guess = c.pick-guess.result in
    let set = c.close-set.result in
    let picked = subst (λ k. Picks tries.unless k guess) c.from.ensures c.pick-guess.ensures in
    rw c.then_some.ensures (found_if (g.F.Facts.meaning tries.facts.now) tries.rules.now tries.unless c.args.number guess set _ picked c.close-set.ensures (Decides-eqb (bit_and set tries.unless) guess))
