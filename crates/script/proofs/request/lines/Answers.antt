use Rattle.std.proofs.Common.{ℕ, ◌+◌, drop, sym, subst, rules, tests, arith}
use Rattle.std.specs.List.{slice_split}
use Rattle.std.proofs.lemmas.List.{length_push}
use Rattle.script.proofs.Items.{ReadSoFar, is_comma, read_nothing, item_read, item_bad, item_next, items_end}
use Rattle.script.proofs.SetReads.{only_empty}
use Rattle.script.proofs.request.lines.Goals as goal

pub loop-item-init : goal.loop-item-init
loop-item-init c = read_nothing c.args.field.now

pub returns-in_err-line : goal.returns-in_err-line
returns-in_err-line c =
    let at = item_next _ _ _ c.args.field.now c.loop-item.yielded c.next.result c.loop-item.yielded_by c.next.ensures.steps (search rules) (search rules) (λ x b q k. search (rules, tests)) c.in-Some.item c.in-Some.is in
    rw c.from_residual.ensures (only_empty c.args.field.now (item_bad c.args.field.now _ _ _ c.in-Some.item.now c.loop-item.invariant at c.in_err-line.ensures))

pub loop-item-preserved : goal.loop-item-preserved
loop-item-preserved c =
    let at = item_next _ _ _ c.args.field.now c.loop-item.yielded c.next.result c.loop-item.yielded_by c.next.ensures.steps (search rules) (search rules) (λ x b q k. search (rules, tests)) c.in-Some.item c.in-Some.is in
    let line = c.in_ok-line.ensures in
    let w = c.with-lines.ensures in
    let read = item_read c.args.field.now _ _ _ c.in-Some.item.now c.loop-item.invariant at c.in_ok-line.line c.with-lines.result line.0 line.1 line.2 record { old = w.old; new = w.new line.1; only = w.only } (omega arith) in
    let P : ℕ → Type 0 = λ n. ReadSoFar c.args.field.now c.with-lines.result (c.in_ok-line.line + 1) (drop n (slice_split is_comma c.args.field.now)) in
    subst P (sym (length_push c.loop-item.yielded c.in-Some.item)) read

pub returns : goal.returns
returns c =
    let end = items_end _ _ _ c.args.field.now c.loop-item.yielded c.next.result c.loop-item.yielded_by c.next.ensures.steps (search rules) (search rules) (λ x b q k. search (rules, tests)) c.in-None.is in
    subst (ReadSoFar c.args.field.now _ _) end c.loop-item.invariant
