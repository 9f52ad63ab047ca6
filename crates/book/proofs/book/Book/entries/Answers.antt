use Rattle.std.proofs.Common.{◌≡◌, ℕ, ◌+◌, List, rules, sym, refl, ap, ◌∙◌, subst, arith}
use Rattle.std.specs.Option.{option_map}
use Rattle.sets.specs.Sets.{Has}
use Rattle.sets.proofs.Lines.{has_below}
use Rattle.sets.proofs.Rows.{no_some}
use Rattle.sets.proofs.Walking.{Walked, walk_start, walk_to, walk_on, walk_end}
use Rattle.record.specs.Record.{listed}
use Rattle.record.specs.declared.entries.Entry.{Entry}
use Rattle.record.proofs.Reading.{pushed}
use Rattle.book.specs.Contents.{Contents}
use Rattle.book.specs.View.{view}
use Rattle.book.proofs.Words.{number_given}
use Rattle.book.proofs.Saving.{Gathered, gathered_none, gathered_few, gathered_more, gathered_same, gathered_all}
use Rattle.book.proofs.book.Book.entries.Goals as goal

pub loop-line-init : goal.loop-line-init
loop-line-init c =
    let b = c.args.self.now in
    let lines = c.args.lines in
    let left : c.into_iter-line-iterator.result.left ≡ lines = search rules in
    let none = subst (Gathered (view b) lines 0) (sym c.new-entries.ensures) (gathered_none (view b) lines) in
    subst (Walked (λ k. Gathered (view b) lines k (listed c.new-entries.result)) lines) (sym left) (walk_start (λ k. Gathered (view b) lines k (listed c.new-entries.result)) lines none)

-- a line that is not in the set adds no entry
passed : (c : Contents) (lines : ℕ) (es : List Entry) (k : ℕ) → (Has lines k → ⊥) → Gathered c lines k es → Gathered c lines (k + 1) es
passed c lines es k out so = gathered_same c lines k es so (λ has. absurd (out has))

pub loop-line-preserved : goal.loop-line-preserved
loop-line-preserved c =
    let b = c.args.self.now in
    let lines = c.args.lines in
    let es = listed c.loop-line.entries in
    let line = c.in-Some.line in
    let so = λ (k : ℕ). Gathered (view b) lines k es in
    let at = walk_to so lines (passed (view b) lines es) _ line _ c.loop-line.invariant c.in-Some.ensures.steps in
    let same = gathered_same (view b) lines line es at.1 (λ has n e. no_some (ap (option_map (λ s. s.number)) c.in_default.ensures.said ∙ e)) in
    walk_on so so lines _ line _ c.ranges.lines.fits c.loop-line.invariant c.in-Some.ensures.steps same

pub loop-line-preserved-in-Some-statement : goal.loop-line-preserved-in-Some-statement
loop-line-preserved-in-Some-statement c =
    let b = c.args.self.now in
    let lines = c.args.lines in
    let es = listed c.loop-line.entries in
    let line = c.in-Some.line in
    let number = c.in-Some-statement.row.number in
    let so = λ (k : ℕ). Gathered (view b) lines k es in
    let at = walk_to so lines (passed (view b) lines es) _ line _ c.loop-line.invariant c.in-Some.ensures.steps in
    let low = has_below lines line c.ranges.lines.fits at.0 in
    let numbered = ap (option_map (λ s. s.number)) (sym c.in-Some-statement.ensures.said) in
    let added = pushed es (listed c.push.new.self) _ c.push.result c.push.ensures (gathered_few (view b) lines line es at.1 low) in
    let more = gathered_more (view b) lines line es at.1 (record { line = line; number = number }) low refl at.0 numbered (number_given b line number numbered) in
    walk_on so (λ k. Gathered (view b) lines k (listed c.push.new.self)) lines _ line _ c.ranges.lines.fits c.loop-line.invariant c.in-Some.ensures.steps (subst (Gathered (view b) lines (line + 1)) (sym added) more)

pub returns : goal.returns
returns c =
    let b = c.args.self.now in
    let lines = c.args.lines in
    let es = listed c.loop-line.entries in
    let so = walk_end (λ k. Gathered (view b) lines k es) lines (passed (view b) lines es) _ _ c.loop-line.invariant c.in-None.ensures.steps in
    record { of = gathered_all (view b) lines 64 es c.ranges.lines.fits (omega arith) so; good = so.good; next = b.next_in_range.1 }
