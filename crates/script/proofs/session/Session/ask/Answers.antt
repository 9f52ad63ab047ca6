use Rattle.std.proofs.Common.{sym, refl, ◌∙◌, subst}
use Rattle.script.specs.Answering.{Asks, Starts}
use Rattle.script.specs.Texts.{done_text}
use Rattle.script.specs.declared.request.Request.{Request}
use Rattle.script.specs.declared.session.State.{State}
use Rattle.script.specs.declared.session.State.TheVariants.{Collecting, Planning}
use Rattle.script.proofs.Sayings.{said, asks_first}
use Rattle.script.proofs.session.Session.ask.Goals as goal

pub returns-in-Step : goal.returns-in-Step
returns-in-Step c =
    let number = c.args.self.now.number in
    let r = c.step.result in
    let after = c.step.new.self in
    let was = c.in-Collecting.is in
    let P : State → Type 0 = λ s. Asks number s c.args.place c.args.request (Collecting after) (done_text r) in
    let Q : Request → Type 0 = λ request. Asks number (Collecting c.in-Collecting.steps) c.args.place request (Collecting after) (done_text r) in
    said (done_text r) (refl, subst P (sym was) (subst Q (sym c.in-Step.is) (after, r, c.step.ensures.step, refl, refl))) c.done.ensures

pub returns-in-Planning : goal.returns-in-Planning
returns-in-Planning c =
    let said = c.plan.ensures in
    let after = c.plan.new.planner in
    let was = c.in-Planning.is in
    let P : State → Type 0 = λ s. Asks c.args.self.now.number s c.args.place c.args.request (Planning after) said.text in
    record { text = said.text; so = (refl, subst P (sym was) (after, said.so, refl)); short = said.short; printed = said.printed }

pub returns-in_default : goal.returns-in_default
returns-in_default c =
    let said = c.plan-in_default.ensures in
    let after = c.plan-in_default.new.planner in
    let was = c.in-Collecting.is in
    let number = c.args.self.now.number in
    let P : State → Type 0 = λ s. Asks number s c.args.place c.args.request (Planning after) said.text in
    let starts : Starts number c.in-Collecting.steps c.args.place c.args.request (Planning after) said.text =
    record { fresh = c.new-planner.result; planner = after; made = (c.new-planner.ensures.made, c.new-planner.ensures.facts ∙ c.replace-facts.ensures.value); asked = said.so; state = refl } in
    let asks = asks_first number c.in-Collecting.steps c.args.place c.args.request (Planning after) said.text c.in_default.not-Step starts in
    record { text = said.text; so = (refl, subst P (sym was) asks); short = said.short; printed = said.printed }
