use Rattle.script.proofs.RequestReads.{no_parts, step_fields, step_parts}
use Rattle.script.proofs.request.step.Goals as goal

pub returns-in_err-needs : goal.returns-in_err-needs
returns-in_err-needs c = rw c.from_residual.ensures (λ request fit e.
    no_parts _ _ c.in_err-needs.ensures (step_fields c.args.fields.now request fit e).4)

pub returns-in_err-set : goal.returns-in_err-set
returns-in_err-set c = rw c.from_residual-in_err-set.ensures (λ request fit e.
    let p = step_parts c.in_ok-needs.ensures request fit e in
    c.in_err-set.ensures p.0 p.2 p.4)

pub returns-in_err-number : goal.returns-in_err-number
returns-in_err-number c = rw c.from_residual-in_err-number.ensures (λ request fit e.
    let p = step_parts c.in_ok-needs.ensures request fit e in
    c.in_err-number.ensures p.1 p.3 p.5)
