-- The one menu under a rule that gives line 0 unasked, and the length of its record.
use Rattle.std.proofs.Common.{◌≡◌, ℕ, ◌≤◌, List, [], ◌∷◌, length, set, replicate, Some, None, Option, sym, refl, ◌∙◌, subst, inl, inr, ⊎_elim, arith}
use Rattle.sets.specs.Sets.{Has}
use Rattle.sets.proofs.Lines.{single_only, none_has}
use Rattle.sets.proofs.Rows.{some_same, no_some}
use Rattle.facts.specs.Meaning.{bare}
use Rattle.record.specs.Record.{edition, encode}
use Rattle.record.specs.declared.entries.Entry.{Entry}
use Rattle.book.specs.Rows.{at}
use Rattle.book.specs.Contents.{Contents}
use Rattle.book.specs.Saved.{EntriesOf}
use Rattle.book.specs.declared.rows.Rule.{Rule}
use Rattle.book.proofs.Tables.{at_set, empty_at}
use Rattle.laws.specs.Menus.{Menu}
use Rattle.clients.specs.Rewritten.{gives_line}

-- place 0 of the rules, and the others empty
abbrev pub rules_with : Option Rule → List (Option Rule)
rules_with rule = set (replicate 40 None) 0 rule

only_rule : (p : ℕ) (r : Rule) → at (rules_with (Some gives_line)) p ≡ Some r → gives_line ≡ r
only_rule p r e =
    ⊎_elim
    (λ new. some_same (sym new.0 ∙ e))
    (λ old. absurd (no_some (sym (empty_at 40 p) ∙ sym old ∙ e)))
    (at_set (replicate 40 None) 0 p (Some gives_line))

-- {0} is a menu
pub line_menu : Menu bare (rules_with (Some gives_line)) 1
line_menu = record {
  lines = omega arith;
  has = record { left = refl; obeys = λ p r e free needs. subst (λ x. Has 1 x.gives) (only_rule p r e) refl };
  least = λ t lines closed n h.
      let given : Has t 0 = closed.obeys 0 gives_line refl (λ k no _. none_has k no) (λ k no. absurd (none_has k no)) in
      subst (Has t) (sym (single_only 0 n h)) given;
}

-- its record is at most 7 bytes: it has no second entry
pub record_fits : (c : Contents) (es : List Entry) → EntriesOf c 1 es → length (encode edition es) ≤ 7
record_fits c [] of = omega arith
record_fits c (e ∷ []) of = omega arith
record_fits c (e ∷ f ∷ es) of =
    let above = of.rising.2.0 in
    let low = single_only 0 f.line (of.each f.line f.number (inr (inl (refl, refl)))).0 in
    absurd (omega arith)
