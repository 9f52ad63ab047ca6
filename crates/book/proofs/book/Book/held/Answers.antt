use Rattle.std.proofs.Common.{◌≡◌, ◌<◌, length, Some, None, rules, sym, ap, ◌∙◌, subst}
use Rattle.std.specs.Option.{option_map}
use Rattle.sets.specs.Sets.{Has}
use Rattle.sets.proofs.Rows.{some_same, no_some}
use Rattle.book.specs.Rows.{at}
use Rattle.book.specs.View.{said}
use Rattle.book.specs.declared.rows.HoldRow.{HoldRow}
use Rattle.book.proofs.Tables.{full_map, union_at}
use Rattle.book.proofs.Holding.{NoRow, out_none, out_found}
use Rattle.book.proofs.book.Book.held.Goals as goal

pub returns-in_err-place : goal.returns-in_err-place
returns-in_err-place c =
    let t = c.args.self.now.tables in
    let none : NoRow t.holds c.args.number = search rules in
    let answer : c.from_residual.result ≡ None = search rules in
    record { lines = answer ∙ ap (option_map (λ h. h.lines)) (sym (out_none t.holds c.args.number none)); written = λ lines n e. absurd (no_some (sym answer ∙ e)) }

-- a row that was found is not empty
pub returns-in_err-row : goal.returns-in_err-row
returns-in_err-row c =
    let b = c.args.self.now in
    let t = b.tables in
    let k = c.in_ok-place.place in
    let here : (k < length t.holds) × (option_map (λ (h : HoldRow). h.number) (at t.holds k) ≡ Some c.args.number) = search rules in
    let gone : at t.holds k ≡ None = search rules in
    absurd (no_some (sym (ap (option_map (λ (h : HoldRow). h.number)) gone) ∙ here.1))

pub returns : goal.returns
returns c =
    let b = c.args.self.now in
    let t = b.tables in
    let k = c.in_ok-place.place in
    let here : (k < length t.holds) × (option_map (λ (h : HoldRow). h.number) (at t.holds k) ≡ Some c.args.number) = search rules in
    let row : at t.holds k ≡ Some c.in_ok-row.row = search rules in
    let found = out_found t.holds k c.args.number b.holds_distinct here.1 in
    record {
      lines = ap (λ r. Some r.lines) (some_same (sym row ∙ found.1)) ∙ ap (option_map (λ h. h.lines)) (sym found.2);
      written = λ lines n e has. full_map said t.lines n ∙ b.holds_on_lines n (union_at (λ h. h.lines) t.holds k n c.in_ok-row.row row (subst (λ s. Has s n) (sym (some_same e)) has));
    }
