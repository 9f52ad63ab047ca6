use Rattle.std.proofs.Common.{◌+◌, drop, None, sym, ap, ◌∙◌}
use lib.Bits.{bit_or, or_zero_r}
use Rattle.std.proofs.lemmas.List.{at_drop_all}
use Rattle.book.specs.Rows.{unless_lines}
use Rattle.book.proofs.Tables.{union_more, gather_more}
use Rattle.book.proofs.book.read.all_unless.Goals as goal
use Rattle.book.proofs.book.read.all_unless.Goals.{in-Some, in_default}

pub loop-row-preserved : goal.loop-row-preserved
loop-row-preserved c =
    let rules = c.args.rules.now in
    let i = c.loop-row.row-index in
    let rest = unless_lines (drop (i + 1) rules) in
    elim c.match-row.branch [
      | in-Some w ↦ ap (λ s. bit_or s rest) w.all-is ∙ gather_more (λ r. r.unless) rules i c.loop-row.all w.in-Some.rule c.loop-row-test.true w.in-Some.is ∙ c.loop-row.invariant
      | in_default w ↦ ap (λ s. bit_or s rest) w.all-is ∙ ap (bit_or c.loop-row.all) (sym (union_more (λ r. r.unless) rules i None c.loop-row-test.true w.in_default.is)) ∙ c.loop-row.invariant
    ]

pub returns : goal.returns
returns c =
    let none = at_drop_all (λ rows. bit_or c.loop-row.all (unless_lines rows)) c.args.rules.now c.loop-row.row-index c.loop-row-test.false in
    sym (or_zero_r c.loop-row.all) ∙ sym none ∙ c.loop-row.invariant
