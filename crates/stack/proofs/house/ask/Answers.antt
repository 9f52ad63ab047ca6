use Rattle.clauses.specs.Told.{clauses_of, sense_of}
use Rattle.clauses.specs.Entailing.{sense_on_lines}
use Rattle.stack.specs.Stack.{bottom_of, inner_of, outer_of, steps_of}
use Rattle.stack.proofs.Housing.{agrees_least}
use Rattle.stack.proofs.house.ask.Goals as goal

pub returns : goal.returns
returns c =
    let f = c.args.facts.now in
    let b = bottom_of f in
    agrees_least (clauses_of b) (sense_of b) (sense_on_lines b) (inner_of f) (steps_of f) (outer_of f) c.args.set _ c.ask.ensures.smallest
