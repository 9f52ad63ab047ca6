use Rattle.std.proofs.Common.{◌≤◌, Decides, ◌∙◌, subst}
use lib.Bits.{bit_or}
use lib.Count.{ones}
use Rattle.std.proofs.lemmas.List.{length-set}
use Rattle.std.proofs.lemmas.Bool.Decides.{not_from_Decides}
use Rattle.book.specs.Rows.{AnyVacant, lines_named}
use Rattle.book.specs.View.{said, view}
use Rattle.book.proofs.Keeping.{all_kept, lines_kept, holds_kept, on_lines_written, few_written, full_unless_vacant}
use Rattle.book.proofs.book.Book.rule.Goals as goal

pub invariant_of-self : goal.invariant_of-self
invariant_of-self c =
    let b = c.args.self.now in
    let t = b.tables in
    let k = c.args.place in
    let rule = c.args.rule in
    let vacant = not_from_Decides c.any_vacant.result (subst (λ s. Decides c.any_vacant.result (AnyVacant (view b).lines s)) c.lines_named.ensures c.any_vacant.ensures) c.if-any_vacant.false in
    all_kept _ _ _ _ _ (lines_kept b)
    (record {
      places = length-set t.rules k _ ∙ b.rule_places;
      on_lines = on_lines_written lines_named t.rules t.lines k rule b.rules_on_lines (λ n h. full_unless_vacant said t.lines n (λ empty. vacant (n, h, empty)));
      few_unless = few_written t.rules k rule (subst (λ s. ones (bit_or s rule.unless) ≤ 12) c.unless_lines.ensures c.if-unless-gt-MOST_UNLESS.false);
    })
    (holds_kept b)
