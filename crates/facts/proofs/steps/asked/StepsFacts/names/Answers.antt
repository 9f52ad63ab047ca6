use Rattle.std.proofs.Common.{rules}
use Rattle.facts.specs.Told.{told}
use Rattle.facts.specs.Stepping.{named_all}
use Rattle.facts.proofs.steps.asked.StepsFacts.names.Goals as goal

pub returns : goal.returns
returns g c = rw (named_all (g.F.Facts.meaning c.args.self.now.below).names (told c.args.self.now)) (search rules)
