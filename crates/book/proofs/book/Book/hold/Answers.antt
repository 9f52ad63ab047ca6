use Rattle.std.proofs.Common.{◌≡◌, ℕ, ◌<◌, length, None, Err, rules, sym, refl, ◌∙◌, subst, inl, inr, arith}
use Rattle.std.proofs.lemmas.List.{length-set}
use Rattle.std.proofs.lemmas.Bool.Decides.{not_from_Decides}
use Rattle.sets.specs.declared.refusal.Refusal.TheVariants.{HoldsFull}
use Rattle.book.specs.Holds.{TakeHold}
use Rattle.book.specs.Rows.{at, Full}
use Rattle.book.specs.View.{said, view}
use Rattle.book.proofs.Keeping.{all_kept, lines_kept, rules_kept, distinct_written, given_written, on_lines_written, full_unless_vacant}
use Rattle.book.proofs.Holding.{out_filled, filled_all, filled_free, seen_taken}
use Rattle.book.proofs.book.Book.hold.Goals as goal

pub returns-then-holds_spent : goal.returns-then-holds_spent
returns-then-holds_spent c = (inl (c.holds_spent.ensures.0 c.if-holds_spent.true, refl), refl)

pub returns-then-any_vacant : goal.returns-then-any_vacant
returns-then-any_vacant c =
    (inr (not_from_Decides c.holds_spent.result c.holds_spent.ensures c.if-holds_spent.false, inl (c.any_vacant.ensures.0 c.if-any_vacant.true, refl)), refl)

pub returns-in_err-place : goal.returns-in_err-place
returns-in_err-place c =
    let b = c.args.self.now in
    let t = b.tables in
    let refused : c.from_residual.result ≡ Err HoldsFull = search rules in
    let none : (i : ℕ) → i < length t.holds → Full t.holds i = search rules in
    let all = filled_all t.holds none in
    let spent = not_from_Decides c.holds_spent.result c.holds_spent.ensures c.if-holds_spent.false in
    let full = not_from_Decides c.any_vacant.result c.any_vacant.ensures c.if-any_vacant.false in
    subst (λ r. TakeHold (view b) c.args.lines r (view b)) (sym refused)
    (inr (spent, inr (full, inl (omega (arith, out_filled t.holds t.next_hold b.holds_distinct b.holds_given, all, b.hold_places), refl))), refl)

pub invariant_of-self : goal.invariant_of-self
invariant_of-self c =
    let b = c.args.self.now in
    let t = b.tables in
    let k = c.in_ok-place.place in
    all_kept _ _ _ _ _ (lines_kept b) (rules_kept b)
    (record {
      places = length-set t.holds k _ ∙ b.hold_places;
      next_in_range = omega (arith, not_from_Decides c.holds_spent.result c.holds_spent.ensures c.if-holds_spent.false);
      distinct = distinct_written (λ h. h.number) t.holds k t.next_hold _ b.holds_distinct b.holds_given refl;
      given = given_written (λ h. h.number) t.holds k t.next_hold _ b.holds_given refl b.next_hold_in_range.0;
      on_lines = on_lines_written (λ h. h.lines) t.holds t.lines k _ b.holds_on_lines (λ n h. full_unless_vacant said t.lines n (λ empty. not_from_Decides c.any_vacant.result c.any_vacant.ensures c.if-any_vacant.false (n, h, empty)));
    })

pub returns : goal.returns
returns c =
    let b = c.args.self.now in
    let t = b.tables in
    let k = c.in_ok-place.place in
    let free : (k < length t.holds) × (at t.holds k ≡ None) = search rules in
    let out = out_filled t.holds t.next_hold b.holds_distinct b.holds_given in
    let less = filled_free t.holds k free.0 free.1 in
    let spent = not_from_Decides c.holds_spent.result c.holds_spent.ensures c.if-holds_spent.false in
    let full = not_from_Decides c.any_vacant.result c.any_vacant.ensures c.if-any_vacant.false in (
      (spent, (full, ((λ most. omega (arith, out, less, b.hold_places)), tt))),
      (refl, seen_taken t k _ free.0 free.1 b.holds_given refl),
    )
