use Rattle.clauses.specs.Rows.{atom_count}
use Rattle.clauses.specs.Told.{clauses_of, sense_of}
use Rattle.clauses.specs.Entailing.{computed_names, sense_on_lines}
use Rattle.stack.specs.Stack.{bottom_of, inner_of, outer_of, steps_of}
use Rattle.stack.proofs.Housing.{named_all}
use Rattle.stack.proofs.house.names.Goals as goal

pub returns : goal.returns
returns c =
    let f = c.args.facts.now in
    let b = bottom_of f in
    named_all (sense_of b) _ (inner_of f) (steps_of f) (outer_of f) _ (computed_names atom_count (clauses_of b) (sense_of b) (sense_on_lines b)) c.names.ensures
