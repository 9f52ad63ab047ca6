use Rattle.script.proofs.RequestReads.{no_parts, rule_fields, rule_parts, needs_part, unless_part}
use Rattle.script.proofs.request.rule.Goals as goal

pub returns-in_err-place : goal.returns-in_err-place
returns-in_err-place c = rw c.from_residual.ensures (λ request fit e.
    no_parts _ _ c.in_err-place.ensures (rule_fields c.args.fields.now request fit e).5)

pub returns-in_err-needs : goal.returns-in_err-needs
returns-in_err-needs c = rw c.from_residual-in_err-needs.ensures (λ request fit e.
    let r = rule_parts c.in_ok-place.ensures request fit e in
    no_parts _ _ c.in_err-needs.ensures r.is_rest)

pub returns-in_err-unless : goal.returns-in_err-unless
returns-in_err-unless c = rw c.from_residual-in_err-unless.ensures (λ request fit e.
    let r = rule_parts c.in_ok-place.ensures request fit e in
    no_parts _ _ c.in_err-unless.ensures (needs_part r c.in_ok-needs.ensures).1)

pub returns-in_err-number : goal.returns-in_err-number
returns-in_err-number c = rw c.from_residual-in_err-number.ensures (λ request fit e.
    let r = rule_parts c.in_ok-place.ensures request fit e in
    c.in_err-number.ensures r.place r.fit.0 r.is_place)

pub returns-in_err-set : goal.returns-in_err-set
returns-in_err-set c = rw c.from_residual-in_err-set.ensures (λ request fit e.
    let r = rule_parts c.in_ok-place.ensures request fit e in
    c.in_err-set.ensures r.needs r.fit.1 (needs_part r c.in_ok-needs.ensures).0)

pub returns-in_err-set-2 : goal.returns-in_err-set-2
returns-in_err-set-2 c = rw c.from_residual-in_err-set-2.ensures (λ request fit e.
    let r = rule_parts c.in_ok-place.ensures request fit e in
    c.in_err-set-2.ensures r.unless r.fit.2 (unless_part r c.in_ok-needs.ensures c.in_ok-unless.ensures).0)

pub returns-in_err-number-2 : goal.returns-in_err-number-2
returns-in_err-number-2 c = rw c.from_residual-in_err-number-2.ensures (λ request fit e.
    let r = rule_parts c.in_ok-place.ensures request fit e in
    c.in_err-number-2.ensures r.gives r.fit.3 (unless_part r c.in_ok-needs.ensures c.in_ok-unless.ensures).1)
