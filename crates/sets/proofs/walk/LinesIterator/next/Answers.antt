use Rattle.std.proofs.Common.{rules, arith}
use Rattle.std.proofs.lemmas.Nat.Bits.{bit_at-trailing_zeros}
use Rattle.std.specs.Int.{w64}
use Rattle.sets.proofs.Walking.{taken, less}
use Rattle.sets.proofs.walk.LinesIterator.next.Goals as goal

pub returns-clause-steps : goal.returns-clause-steps
returns-clause-steps c =
    let s = c.args.self.now.left in
    let low = bit_at-trailing_zeros w64 s (omega arith) c.args.self.now.fits in
    taken s _ c.args.self.now.fits low.1 low.2

pub invariant_of-self : goal.invariant_of-self
invariant_of-self c =
    let s = c.args.self.now.left in
    let low = bit_at-trailing_zeros w64 s (omega arith) c.args.self.now.fits in
    record { fits = omega (arith, less s _ c.args.self.now.fits low.1, c.args.self.now.fits) }

pub returns-clause-goes : goal.returns-clause-goes
returns-clause-goes c =
    let s = c.args.self.now.left in
    let low = bit_at-trailing_zeros w64 s (omega arith) c.args.self.now.fits in
    let fewer = less s _ c.args.self.now.fits low.1 in
    search rules
