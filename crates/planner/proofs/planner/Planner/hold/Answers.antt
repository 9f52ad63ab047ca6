use Rattle.std.proofs.Common.{◌≡◌, Err, rules, sym, refl, subst, inl, inr, ⊎_elim}
use Rattle.std.proofs.lemmas.Bool.Decides.{not_from_Decides}
use Rattle.sets.specs.Grounds.{FirstGround}
use Rattle.book.proofs.Words.{lines_are, rules_written}
use Rattle.laws.specs.World.{held, hold_grounds}
use Rattle.laws.proofs.Soundness.{menu_full}
use Rattle.planner.specs.View.{Does, hold_answer, view}
use Rattle.planner.proofs.planner.Planner.hold.Goals as goal

-- a number is left and every line of the menu is written, so as many holds are out as may be
pub returns-in_err-number : goal.returns-in_err-number
returns-in_err-number g c =
    let p = c.args.self.now in
    let w = view p in
    let m = g.F.Facts.meaning p.facts in
    let lawful = g.met.F.Facts.lawful p.facts in
    let set = c.args.set in
    let e = c.in_err-number.field-0.0 in
    let answer : c.from_residual-in_err-number.result ≡ Err e = search rules in
    let spent = not_from_Decides c.holds_spent.result c.holds_spent.ensures c.if-holds_spent.false in
    let stood = c.in_ok-stands.ensures.1 in
    let named = stood.0.0 in
    let menu = stood.1.0 c.if-not-branch.false in
    let written = menu_full m lawful w (lines_are p.book) (rules_written p.book) named set menu in
    let told = c.in_err-number.ensures in
    let full : FirstGround (hold_grounds m w set) e =
    ⊎_elim (λ none_left. absurd (spent none_left.0))
    (λ left. ⊎_elim (λ vacant. absurd (vacant.0.2 (written vacant.0.0 vacant.0.1)))
    (λ fits. ⊎_elim (λ most. inr (spent, inr (named, inr ((λ none. none menu), inl most)))) (λ room. absurd room.1) fits.1) left.1) told.0 in
    subst (λ r. Does g.F.Facts.meaning p (held set (hold_answer r)) (record { number = p.number; facts = p.facts; book = c.hold.new.self })) (sym answer)
    (record { step = (refl, (full, told.1)); facts = refl })
