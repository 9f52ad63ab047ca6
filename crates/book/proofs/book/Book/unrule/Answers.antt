use Rattle.std.proofs.lemmas.List.{length-set}
use Rattle.std.proofs.Common.{None, ◌∙◌}
use Rattle.book.specs.Rows.{lines_named}
use Rattle.book.proofs.Keeping.{all_kept, lines_kept, holds_kept, on_lines_cleared, few_cleared}
use Rattle.book.proofs.book.Book.unrule.Goals as goal

pub invariant_of-self : goal.invariant_of-self
invariant_of-self c =
    let b = c.args.self.now in
    let t = b.tables in
    let k = c.args.place in
    all_kept _ _ _ _ _ (lines_kept b)
    (record {
      places = length-set t.rules k None ∙ b.rule_places;
      on_lines = on_lines_cleared lines_named t.rules t.lines k b.rules_on_lines;
      few_unless = few_cleared t.rules k b.few_unless;
    })
    (holds_kept b)
