-- What holds of every book that calls lead to, whatever the calls were.
use Rattle.std.proofs.Common.{◌≡◌, ℕ, suc, ◌+◌, ◌^◌, ◌<◌, ◌≤◌, true, ◌⊎◌, List, [], ◌∷◌, length, set, is_some, Some, None, Option, sym, refl, ap, ◌∙◌, subst, inl, inr, ⊎_elim, arith}
use native.Mathlib.Decide.{dec_lt}
use lib.Bits.{bit_or, or_lt}
use Rattle.std.proofs.lemmas.List.{length-set}
use Rattle.std.proofs.lemmas.Nat.{pow_below}
use Rattle.sets.specs.Sets.{Has, IsLines}
use Rattle.sets.proofs.Lines.{or_has, or_has_right, single_has, single_only}
use Rattle.sets.proofs.Rows.{some_same, no_some}
use Rattle.facts.specs.Meaning.{Meaning, Lawful}
use Rattle.book.specs.Rows.{at, Full, Vacant, union, lines_named, rule_lines}
use Rattle.book.specs.Kept.{Given}
use Rattle.book.specs.Calls.{IsHeld, IsNamed}
use Rattle.book.specs.Holds.{put}
use Rattle.book.specs.Contents.{Contents, Statement, Held, empty_book}
use Rattle.book.specs.declared.rows.Rule.{Rule}
use Rattle.book.proofs.Tables.{not_full, full_below, empty_at, union_at, union_has}
use Rattle.laws.specs.Menus.{Menu}
use Rattle.laws.specs.World.{World, NameEmpty}
use Rattle.laws.specs.Runs.{Change, fills, empties, adds, removes, takes, returns, nothing}
use Rattle.laws.proofs.MenuLaws.{menu_within}
use Rattle.laws.proofs.Steps.{moved, Allowed}
use Rattle.laws.proofs.Puts.{Puts, set_puts, hold_puts, each_put, full_put}

-- every line of the set is written
abbrev pub OnFull : List (Option Statement) → ℕ → Type 0
OnFull lines s = (n : ℕ) → Has s n → Full lines n

-- a hold that is out has a number given before, and is a set of written lines
pub record HoldSound (lines : List (Option Statement)) (next_hold number : ℕ) (h : Held) : Type 0 where
  pub given : number < next_hold
  pub is_lines : IsLines h.lines
  pub written : OnFull lines h.lines

pub record Sound (c : Contents) : Type 0 where
  pub lines_are : length c.lines ≡ 64
  pub rules_are : length c.rules ≡ 40
  pub from_one : 1 ≤ c.next
  pub given : Given (λ s. s.number) c.lines c.next
  pub ruled : (p : ℕ) (r : Rule) → at c.rules p ≡ Some r → OnFull c.lines (lines_named r)
  pub held : (k : ℕ) (h : Held) → c.holds k ≡ Some h → HoldSound c.lines c.next_hold k h

-- a place that is not empty is filled
pub full_from_not : {X : Type 0} (rows : List (Option X)) (n : ℕ) → (Vacant rows n → ⊥) → Full rows n
full_from_not {X = X} rows n filled = by (at rows n) refl
  where
    by : (o : Option X) → at rows n ≡ o → Full rows n
    by None e = absurd (filled (not_full rows n e))
    by (Some x) e = ap is_some e

-- lines below 64 of each row make a set of lines
union_lines : {X : Type 0} (lines : X → ℕ) (rows : List (Option X)) → ((p : ℕ) (x : X) → at rows p ≡ Some x → IsLines (lines x)) → IsLines (union lines rows)
union_lines lines [] each = omega arith
union_lines lines (None ∷ rows) each = union_lines lines rows (λ p. each (suc p))
union_lines lines (Some x ∷ rows) each = or_lt 64 (lines x) (union lines rows) (each 0 x refl) (union_lines lines rows (λ p. each (suc p)))

pub new_sound : Sound empty_book
new_sound = record {
  lines_are = refl;
  rules_are = refl;
  from_one = omega arith;
  given = λ i a e. absurd (no_some (sym (empty_at 64 i) ∙ e));
  ruled = λ p r e. absurd (no_some (sym (empty_at 40 p) ∙ e));
  held = λ k h e. absurd (no_some e);
}

module _ (m : Meaning) (lawful : Lawful m) (w : World) (lines_are : length w.book.lines ≡ 64) (ruled : (p : ℕ) (r : Rule) → at w.book.rules p ≡ Some r → OnFull w.book.lines (lines_named r)) where
  -- a rule gives a written line
  gives_full : (p : ℕ) (r : Rule) → at w.book.rules p ≡ Some r → Full w.book.lines r.gives
  gives_full p r e = ruled p r e r.gives (or_has_right (bit_or r.needs r.unless) (2 ^ r.gives) r.gives (single_has r.gives))

  pub gives_below : (p : ℕ) (r : Rule) → at w.book.rules p ≡ Some r → r.gives < 64
  gives_below p r e = let l = full_below w.book.lines r.gives (gives_full p r e) in let n = lines_are in omega arith

  -- where the facts name no empty line, every line of a menu is written
  pub menu_full : (NameEmpty m w → ⊥) → (e : ℕ) → Menu m w.book.rules e → OnFull w.book.lines e
  menu_full none e menu n h =
      ⊎_elim
      (λ k. full_from_not w.book.lines n (λ vacant. none (n, k, vacant)))
      (λ k. let r = union_has gives w.book.rules n k in subst (Full w.book.lines) (sym (single_only r.1.gives n r.3)) (gives_full r.0 r.1 r.2))
      (or_has m.names given n (menu_within m w.book.rules lawful given given_lines given_has e menu n h))
    where
      gives : Rule → ℕ
      gives r = 2 ^ r.gives

      given : ℕ
      given = union gives w.book.rules

      given_lines : IsLines given
      given_lines = union_lines gives w.book.rules (λ p r e. pow_below r.gives 64 (gives_below p r e))

      given_has : (p : ℕ) (r : Rule) → at w.book.rules p ≡ Some r → Has given r.gives
      given_has p r e = union_at gives w.book.rules p r.gives r e (single_has r.gives)

module _ (m : Meaning) (lawful : Lawful m) (w : World) (sound : Sound w.book) where
  -- a line is filled with a statement of the next number, or emptied where no rule names it and no hold has it
  lines_moved : (line : ℕ) (o : Option Statement) (next : ℕ) → line < 64 → w.book.next ≤ next
      → ((s : Statement) → o ≡ Some s → (1 ≤ s.number) × (s.number < next))
      → is_some o ≡ true ⊎ ((IsHeld w.book line → ⊥) × (IsNamed w.book line → ⊥))
      → Sound (record { lines = set w.book.lines line o; rules = w.book.rules; holds = w.book.holds; next = next; next_hold = w.book.next_hold })
  lines_moved line o next low up number kept = record {
    lines_are = length-set w.book.lines line o ∙ sound.lines_are;
    rules_are = sound.rules_are;
    from_one = let l = sound.from_one in omega arith;
    given = each_put _ line o _ puts (λ n s. (1 ≤ s.number) × (s.number < next)) (λ n s e. let g = sound.given n s e in (g.0, omega (arith, g.1))) number;
    ruled = λ p r e n h. full_put _ line o _ puts n (⊎_elim inl (λ k. inr (λ same. k.1 (subst (Has (rule_lines w.book.rules)) same (union_at lines_named w.book.rules p n r e h)))) kept) (sound.ruled p r e n h);
    held = λ k h e. let s = sound.held k h e in record {
      given = s.given;
      is_lines = s.is_lines;
      written = λ n has. full_put _ line o _ puts n (⊎_elim inl (λ x. inr (λ same. x.0 (k, h, e, subst (Has h.lines) same has))) kept) (s.written n has);
    };
  }
    where
      puts : Puts (at w.book.lines) line o (at (set w.book.lines line o))
      puts = set_puts w.book.lines line o (let n = sound.lines_are in omega arith)

  -- a place gets a rule that names written lines only, or is emptied
  rules_moved : (place : ℕ) (o : Option Rule) → place < 40 → ((r : Rule) → o ≡ Some r → OnFull w.book.lines (lines_named r))
      → Sound (record { lines = w.book.lines; rules = set w.book.rules place o; holds = w.book.holds; next = w.book.next; next_hold = w.book.next_hold })
  rules_moved place o low named = record {
    lines_are = sound.lines_are;
    rules_are = length-set w.book.rules place o ∙ sound.rules_are;
    from_one = sound.from_one;
    given = sound.given;
    ruled = each_put _ place o _ (set_puts w.book.rules place o (let n = sound.rules_are in omega arith)) (λ p r. OnFull w.book.lines (lines_named r)) sound.ruled named;
    held = sound.held;
  }

  -- a hold of written lines is out, or one is out no more
  holds_moved : (k : ℕ) (o : Option Held) (next_hold : ℕ) → w.book.next_hold ≤ next_hold → ((h : Held) → o ≡ Some h → HoldSound w.book.lines next_hold k h)
      → Sound (record { lines = w.book.lines; rules = w.book.rules; holds = put w.book.holds k o; next = w.book.next; next_hold = next_hold })
  holds_moved k o next_hold up fits = record {
    lines_are = sound.lines_are;
    rules_are = sound.rules_are;
    from_one = sound.from_one;
    given = sound.given;
    ruled = sound.ruled;
    held = each_put _ k o _ (hold_puts w.book.holds k o) (HoldSound w.book.lines next_hold)
        (λ n h e. let s = sound.held n h e in let l = s.given in record { given = omega arith; is_lines = s.is_lines; written = s.written })
        fits;
  }

  -- a book stays sound over each change that the planner lets happen
  pub sound_moved : (c : Change) (words : List ℕ) → Allowed m w c words → Sound (moved w.book c words)
  sound_moved (fills line number) words l =
      lines_moved line _ (w.book.next + 1) (omega (arith, l.0.0)) (omega arith)
      (λ s e. let same = ap (λ x. x.number) (some_same e) in let one = sound.from_one in (omega arith, omega arith))
      (inl refl)
  sound_moved (empties line) words l =
      lines_moved line None w.book.next (omega (arith, l.0)) (omega arith) (λ s e. absurd (no_some e)) (inr (l.1.1.0, λ k. l.1.1.1.0 (inl k)))
  sound_moved (adds place rule) words l =
      rules_moved place (Some rule) (omega (arith, λ (h : 39 < place). l.0 (inl h)))
      (λ r e n h. full_from_not w.book.lines n (λ vacant. l.1.1.0 (n, subst (λ x. Has (lines_named x) n) (sym (some_same e)) h, vacant)))
  sound_moved (removes place) words l = rules_moved place None (omega (arith, l.0)) (λ r e. absurd (no_some e))
  sound_moved (takes hold lines) words l =
      holds_moved w.book.next_hold (Some (record { lines = lines })) (w.book.next_hold + 1) (omega arith)
      (λ h e. subst (HoldSound w.book.lines (w.book.next_hold + 1) w.book.next_hold) (some_same e) (record {
        given = omega arith;
        is_lines = elim (dec_lt lines (2 ^ 64)) [ yes low ↦ low | no high ↦ absurd (l.0.1.1.0 (λ menu. high menu.lines)) ];
        written = λ n has. full_from_not w.book.lines n (λ vacant. l.0.1.1.0 (λ menu. vacant (menu_full m lawful w sound.lines_are sound.ruled l.0.1.0 lines menu n has)));
      }))
  sound_moved (returns hold) words l = holds_moved hold.number None w.book.next_hold (omega arith) (λ h e. absurd (no_some e))
  sound_moved nothing words l = sound
