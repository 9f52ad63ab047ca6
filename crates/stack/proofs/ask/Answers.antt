use Rattle.std.proofs.Common.{arith}
use Rattle.facts.specs.Layers.{under_given, under_steps}
use Rattle.facts.specs.Stepping.{told_are}
use Rattle.stack.specs.Stack.{bottom_of, inner_of, outer_of, steps_of}
use Rattle.stack.proofs.Stacking.{layers_follow, stands_least}
use Rattle.stack.proofs.ask.Goals as goal

pub returns : goal.returns
returns g c =
    let f = c.args.facts.now in
    let m = g.F.Facts.meaning (bottom_of f) in
    let lawful = g.met.F.Facts.lawful (bottom_of f) in
    let fits = (under_steps (under_given f)).fits in
    let follows = layers_follow m lawful (inner_of f) fits (steps_of f) (outer_of f) c.args.set (told_are (under_given f)) f.fits (omega arith) c.follow.result c.follow.ensures in
    record {
      layered = follows;
      smallest = stands_least m lawful (inner_of f) fits (steps_of f) (outer_of f) c.args.set c.follow.result follows;
    }
