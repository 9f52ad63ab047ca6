use Rattle.std.proofs.Common.{arith}
use Rattle.sets.proofs.Lines.{has_below}
use Rattle.sets.proofs.has.Goals as goal

-- no line of a set is above 63
pub returns-then-line-gt63 : goal.returns-then-line-gt63
returns-then-line-gt63 c =
    (λ e. grind arith, λ h. absurd (omega (arith, has_below c.args.set c.args.line (omega arith) h)))
