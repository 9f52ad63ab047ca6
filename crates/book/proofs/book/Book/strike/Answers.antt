use Rattle.std.proofs.Common.{◌<◌, ◌≤◌, length, None, sym, ◌∙◌, subst, ⊎_elim, arith}
use Rattle.std.proofs.lemmas.List.{length-set}
use Rattle.std.proofs.lemmas.Bool.Decides.{not_from_Decides}
use Rattle.sets.specs.Sets.{Has}
use Rattle.book.proofs.Keeping.{distinct_cleared, each_cleared, full_cleared, all_kept, rules_kept, holds_kept, rules_relined, holds_relined, held_from, seen_struck}
use Rattle.book.proofs.book.Book.strike.Goals as goal

pub invariant_of-self : goal.invariant_of-self
invariant_of-self g c =
    let b = c.args.self.now in
    let t = b.tables in
    let k = c.args.line in
    let free = not_from_Decides c.is_named.result c.is_named.ensures c.if-is_named.false in
    let loose = not_from_Decides c.is_held.result c.is_held.ensures c.if-is_held.false in
    all_kept _ _ _ _ _
    (record {
      places = length-set t.lines k None ∙ b.line_places;
      next_in_range = b.next_in_range;
      distinct = distinct_cleared (λ a. a.number) t.lines k b.numbers_distinct;
      given = each_cleared (λ a. (1 ≤ a.number) × (a.number < t.next)) t.lines k b.numbers_given;
      worded = each_cleared (λ a. length a.words ≤ 24) t.lines k b.worded;
    })
    (rules_relined t.lines _ t.rules (rules_kept b) (λ n h. full_cleared t.lines k n (λ e. free (subst (Has _) e h))))
    (holds_relined t.lines _ t.holds t.next_hold (holds_kept b) (λ n h. full_cleared t.lines k n (λ e. loose (held_from t k b.holds_distinct (subst (Has _) e h)))))

pub returns : goal.returns
returns g c =
    let line = c.args.line in
    let named = not_from_Decides c.has.result c.has.ensures c.if-has.false in (
      (
        omega arith,
        (
          (λ empty. empty (c.has_statement.ensures.0 c.if-not-has_statement.false)),
          (
            not_from_Decides c.is_held.result c.is_held.ensures c.if-is_held.false,
            (⊎_elim (not_from_Decides c.is_named.result c.is_named.ensures c.if-is_named.false) (λ h. named (subst (λ s. Has s line) (sym c.names.ensures) h)), tt),
          ),
        ),
      ),
      seen_struck c.args.self.now.tables line,
    )
