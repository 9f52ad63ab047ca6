use Rattle.std.proofs.Common.{sym, refl, ◌∙◌, arith, rules, ltb-false, eqb-true}
use Rattle.script.proofs.RequestReads.{at_front, by_number}
use Rattle.script.specs.declared.request.Request.TheVariants.{Strike, Unrule, List as Listing}
use Rattle.script.proofs.request.read.Goals as goal

pub returns-in-62 : goal.returns-in-62
returns-in-62 c =
    at_front 62 c.args.line.now c.step.result (omega (arith, ltb-false)) (sym c.from.ensures ∙ c.in-62.is) (omega (arith, eqb-true)) c.step.ensures

pub returns-in-43 : goal.returns-in-43
returns-in-43 c =
    at_front 43 c.args.line.now c.write.result (omega (arith, ltb-false)) (sym c.from.ensures ∙ c.in-43.is) (omega (arith, eqb-true)) c.write.ensures

pub returns-in-45 : goal.returns-in-45
returns-in-45 c =
    at_front 45 c.args.line.now c.map.result (omega (arith, ltb-false)) (sym c.from.ensures ∙ c.in-45.is) (omega (arith, eqb-true))
    (by_number 45 Strike _ c.number.result c.map.result (omega arith) (λ n short. (short, refl)) c.number.ensures c.map.ensures.cases (λ n q made. search rules))

pub returns-in-58 : goal.returns-in-58
returns-in-58 c =
    at_front 58 c.args.line.now c.rule.result (omega (arith, ltb-false)) (sym c.from.ensures ∙ c.in-58.is) (omega (arith, eqb-true)) c.rule.ensures

pub returns-in-47 : goal.returns-in-47
returns-in-47 c =
    at_front 47 c.args.line.now c.map-in-47.result (omega (arith, ltb-false)) (sym c.from.ensures ∙ c.in-47.is) (omega (arith, eqb-true))
    (by_number 47 Unrule _ c.number-in-47.result c.map-in-47.result (omega arith) (λ n short. (short, refl)) c.number-in-47.ensures c.map-in-47.ensures.cases (λ n q made. search rules))

pub returns-in-63 : goal.returns-in-63
returns-in-63 c =
    at_front 63 c.args.line.now c.map-in-63.result (omega (arith, ltb-false)) (sym c.from.ensures ∙ c.in-63.is) (omega (arith, eqb-true))
    (by_number 63 Listing _ c.number-in-63.result c.map-in-63.result (omega arith) (λ n short. (short, refl)) c.number-in-63.ensures c.map-in-63.ensures.cases (λ n q made. search rules))
