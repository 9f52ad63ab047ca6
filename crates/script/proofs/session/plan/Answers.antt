use Rattle.std.proofs.Common.{sym, refl, subst}
use Rattle.script.specs.Answering.{Plans}
use Rattle.script.specs.Texts.{bad_text, done_text, written_text}
use Rattle.script.specs.declared.request.Request.{Request}
use Rattle.script.proofs.Sayings.{said}
use Rattle.script.proofs.session.plan.Goals as goal

pub returns-in-Step : goal.returns-in-Step
returns-in-Step c =
    let P : Request → Type 0 = λ request. Plans c.args.planner.now c.args.place request c.args.planner.now (bad_text c.args.place) in
    said (bad_text c.args.place) (subst P (sym c.in-Step.is) (refl, refl)) c.bad.ensures

pub returns-in-Write : goal.returns-in-Write
returns-in-Write c =
    let r = c.write.result in
    let P : Request → Type 0 = λ request. Plans c.args.planner.now c.args.place request c.write.new.self (written_text r) in
    said (written_text r) (subst P (sym c.in-Write.is) (r, (c.write.ensures.step, c.write.ensures.facts), refl)) c.written.ensures

pub returns-in-Strike : goal.returns-in-Strike
returns-in-Strike c =
    let r = c.strike.result in
    let P : Request → Type 0 = λ request. Plans c.args.planner.now c.args.place request c.strike.new.self (done_text r) in
    said (done_text r) (subst P (sym c.in-Strike.is) (r, (c.strike.ensures.step, c.strike.ensures.facts), refl)) c.done.ensures

pub returns-in-Rule : goal.returns-in-Rule
returns-in-Rule c =
    let r = c.rule.result in
    let P : Request → Type 0 = λ request. Plans c.args.planner.now c.args.place request c.rule.new.self (done_text r) in
    said (done_text r) (subst P (sym c.in-Rule.is) (r, (c.rule.ensures.step, c.rule.ensures.facts), refl)) c.done-in-Rule.ensures

pub returns-in-Unrule : goal.returns-in-Unrule
returns-in-Unrule c =
    let r = c.unrule.result in
    let P : Request → Type 0 = λ request. Plans c.args.planner.now c.args.place request c.unrule.new.self (done_text r) in
    said (done_text r) (subst P (sym c.in-Unrule.is) (r, (c.unrule.ensures.step, c.unrule.ensures.facts), refl)) c.done-in-Unrule.ensures

pub returns-in-List : goal.returns-in-List
returns-in-List c =
    let said = c.list.ensures in
    let P : Request → Type 0 = λ request. Plans c.args.planner.now c.args.place request c.args.planner.now said.text in
    record { text = said.text; so = subst P (sym c.in-List.is) (refl, said.so); short = said.short; printed = said.printed }
