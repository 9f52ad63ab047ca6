use Rattle.std.proofs.Common.{◌≡◌, ◌<◌, ◌≤◌, [], ◌∷◌, length, is_some, Some, None, Err, rules, sym, refl, ap, ◌∙◌, subst, inl}
use Rattle.sets.specs.declared.refusal.Refusal.TheVariants.{NotOut}
use Rattle.book.specs.Holds.{GiveBack}
use Rattle.std.specs.Option.{option_map}
use Rattle.book.specs.Rows.{at}
use Rattle.book.specs.declared.rows.HoldRow.{HoldRow}
use Rattle.book.specs.View.{view}
use Rattle.std.proofs.lemmas.List.{length-set}
use Rattle.book.specs.Contents.{Held}
use Rattle.book.proofs.Keeping.{all_kept, lines_kept, rules_kept, distinct_cleared, each_cleared, on_lines_cleared}
use Rattle.book.proofs.Tables.{not_full}
use Rattle.book.proofs.Holding.{NoRow, out_none, out_found, seen_returned}
use Rattle.book.proofs.book.Book.release.Goals as goal

pub returns-in_err-place : goal.returns-in_err-place
returns-in_err-place c =
    let b = c.args.self.now in
    let none : NoRow b.tables.holds c.args.number = search rules in
    let refused : c.from_residual.result ≡ Err NotOut = search rules in
    subst (λ r. GiveBack (view b) c.args.number r (view b)) (sym refused)
    (inl ((λ out. not_full {X = Held} (None ∷ []) 0 refl (sym (ap is_some (out_none b.tables.holds c.args.number none)) ∙ out)), refl), refl)

pub invariant_of-self : goal.invariant_of-self
invariant_of-self c =
    let b = c.args.self.now in
    let t = b.tables in
    let k = c.in_ok-place.place in
    all_kept _ _ _ _ _ (lines_kept b) (rules_kept b)
    (record {
      places = length-set t.holds k None ∙ b.hold_places;
      next_in_range = b.next_hold_in_range;
      distinct = distinct_cleared (λ h. h.number) t.holds k b.holds_distinct;
      given = each_cleared (λ h. (1 ≤ h.number) × (h.number < t.next_hold)) t.holds k b.holds_given;
      on_lines = on_lines_cleared (λ h. h.lines) t.holds t.lines k b.holds_on_lines;
    })

pub returns : goal.returns
returns c =
    let b = c.args.self.now in
    let t = b.tables in
    let k = c.in_ok-place.place in
    let here : (k < length t.holds) × (option_map (λ (h : HoldRow). h.number) (at t.holds k) ≡ Some c.args.number) = search rules in
    (((λ gone. gone (ap is_some (out_found t.holds k c.args.number b.holds_distinct here.1).2)), tt), seen_returned t k c.args.number b.holds_distinct here.1)
