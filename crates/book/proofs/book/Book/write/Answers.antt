use Rattle.std.proofs.Common.{◌+◌, ◌≤◌, length, sym, refl, subst, ◌∙◌, arith}
use Rattle.std.proofs.lemmas.List.{length-set}
use native.Mathlib.Decide.{dec_lt}
use Rattle.std.proofs.lemmas.Bool.Decides.{not_from_Decides}
use Rattle.book.proofs.Keeping.{distinct_written, given_written, each_written, full_written, all_kept, rules_kept, holds_kept, rules_relined, holds_relined, seen_written}
use Rattle.book.proofs.book.Book.write.Goals as goal

pub invariant_of-self : goal.invariant_of-self
invariant_of-self c =
    let b = c.args.self.now in
    let t = b.tables in
    let k = c.args.line in
    let made = c.in_ok-words.ensures in
    let few : length c.args.words.now ≤ 24 = elim (dec_lt 24 (length c.args.words.now)) [ yes long ↦ absurd (made.0.0 (λ good. omega (arith, good.few))) | no short ↦ omega arith ] in
    all_kept _ _ _ _ _
    (record {
      places = length-set t.lines k _ ∙ b.line_places;
      next_in_range = omega arith;
      distinct = distinct_written (λ a. a.number) t.lines k t.next _ b.numbers_distinct b.numbers_given refl;
      given = given_written (λ a. a.number) t.lines k t.next _ b.numbers_given refl b.next_in_range.0;
      worded = each_written (λ a. length a.words ≤ 24) t.lines k _ b.worded (subst (λ ws. length ws ≤ 24) (sym made.1) few);
    })
    (rules_relined t.lines _ t.rules (rules_kept b) (λ n _ full. full_written t.lines k n _ full))
    (holds_relined t.lines _ t.holds t.next_hold (holds_kept b) (λ n _ full. full_written t.lines k n _ full))

pub returns : goal.returns
returns c =
    let b = c.args.self.now in
    let t = b.tables in
    let k = c.args.line in
    let made = c.in_ok-words.ensures in (
      (omega arith, (not_from_Decides c.has_statement.result c.has_statement.ensures c.if-has_statement.false, (made.0.0, (omega arith, tt)))),
      (refl, seen_written t k (t.next + 1) _ c.args.words.now made.1),
    )
