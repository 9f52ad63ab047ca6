use Rattle.std.proofs.Common.{ℕ, ◌<◌, ◌++◌, length, drop, Ok, Err, sym, refl, ap, ◌∙◌, subst, arith, ltb-false, ltb-true}
use Rattle.std.specs.List.{flat_map}
use Rattle.std.proofs.lemmas.List.{take_rest}
use Rattle.std.proofs.lemmas.Result.{err_from_is_err_and}
use Rattle.record.specs.declared.entries.Entry.{Entry}
use Rattle.record.specs.declared.fault.Fault.TheVariants.{Entry as AtEntry}
use Rattle.record.specs.Record.{front_bytes, entry_bytes, layout, listed, Good, Fit}
use Rattle.record.proofs.Rises.{after, after_more, after_counts, good_more}
use Rattle.record.proofs.Layouts.{entry_first}
use Rattle.record.proofs.Reading.{pushed, read_from, entry_more, faulty_here, all_read}
use Rattle.record.proofs.read.read.Goals as goal

pub returns-in_err-rest : goal.returns-in_err-rest
returns-in_err-rest c =
    let p = err_from_is_err_and c.from_residual.result c.from_residual.ensures.1 in
    read_from c.args.next c.args.bytes.now c.from_residual.result (rw (p.1, p.2) (c.in_err-rest.ensures c.args.next))

-- the entry that the code makes of the next three bytes
abbrev entry_of : ℕ → ℕ → Entry
entry_of line number = record { line = line; number = number }

pub returns-then-not-fits : goal.returns-then-not-fits
returns-then-not-fits c =
    let bytes = c.args.bytes.now in
    let rest = c.loop-rest.rest.now in
    let es = listed c.loop-rest.entries in
    let e = entry_of c.from.result c.from-in-len3-up.result in
    let o = c.in_ok-rest.ensures in
    let first = entry_first rest e (omega (arith, ltb-false)) c.from.ensures (omega arith) (omega arith) in
    let unfit : Fit c.args.next (after 0 es) e → ⊥ = λ fit. cc (c.if-not-fits.ensures.1 (subst (λ least. Fit c.args.next least e) (sym c.loop-rest.invariant.2) fit)) in
    read_from c.args.next bytes (Err (AtEntry _)) (o.right_length, o.right_version, o.right_count, faulty_here c.args.next bytes rest es e _ (omega arith) c.loop-rest.invariant.0 o.right_length.0 first c.loop-rest.invariant.1 unfit)

pub loop-rest-preserved : goal.loop-rest-preserved
loop-rest-preserved c =
    let bytes = c.args.bytes.now in
    let rest = c.loop-rest.rest.now in
    let es = listed c.loop-rest.entries in
    let e = entry_of c.from.result c.from-in-len3-up.result in
    let fit = c.if-not-fits.ensures.0 refl in
    let first = entry_first rest e (omega (arith, ltb-false)) c.from.ensures (omega arith) (omega arith) in
    let from = fit.0 in
    let below = fit.1 in
    let least = c.loop-rest.invariant.2 in
    let room : length es < 64 = omega (arith, after_counts 0 es c.loop-rest.invariant.1.rising) in
    let added = pushed es (listed c.push.new.self) e c.push.result c.push.ensures room in
    let good = good_more c.args.next es e c.loop-rest.invariant.1 (subst (λ least. Fit c.args.next least e) c.loop-rest.invariant.2 fit) in (
      entry_more (drop front_bytes bytes) rest es e c.loop-rest.invariant.0 first ∙ ap (λ x. flat_map layout x ++ drop entry_bytes rest) (sym added) ∙ ap (λ x. flat_map layout (listed c.push.new.self) ++ x) (sym (take_rest rest entry_bytes)),
      subst (Good c.args.next) (sym added) good,
      omega (arith, ap (after 0) added ∙ after_more 0 es e),
      omega arith,
    )

pub returns : goal.returns
returns c =
    let bytes = c.args.bytes.now in
    let es = listed c.loop-rest.entries in
    let all = all_read bytes c.loop-rest.rest.now _ es c.in_ok-rest.ensures c.loop-rest.invariant.0 (omega (arith, ltb-true)) in
    read_from c.args.next bytes (Ok c.loop-rest.entries) (c.loop-rest.invariant.1, all)
