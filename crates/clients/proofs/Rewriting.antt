-- Calls on a planner over bare facts that has line 0 alone, and no rule but one that gives it: no ground stands against them.
use Rattle.std.proofs.Common.{◌≡◌, ℕ, ◌+◌, ◌≤◌, Bool, true, false, cond, eqb, List, [], ◌∷◌, length, set, replicate, is_ok, Some, None, Ok, Err, Option, Result, sym, refl, ap, ◌∙◌, subst, inl, inr, ⊎_elim, arith}
use native.Mathlib.Decide.{dec_lt}
use lib.Count.{ones-le}
use Rattle.std.specs.List.{AllByRecursion}
use Rattle.sets.specs.Sets.{Has}
use Rattle.sets.specs.Grounds.{Ground, NoGround, FirstGround}
use Rattle.sets.specs.declared.refusal.Refusal.{Refusal}
use Rattle.sets.specs.declared.refusal.Refusal.TheVariants.{BadWords}
use Rattle.sets.proofs.Lines.{single_only, none_has}
use Rattle.sets.proofs.Rows.{some_same, no_some}
use Rattle.facts.specs.Meaning.{bare}
use Rattle.book.specs.Rows.{Full}
use Rattle.book.specs.Contents.{Contents, Statement, Held}
use Rattle.book.specs.Calls.{GoodWords, rule_grounds, unrule_grounds, strike_grounds}
use Rattle.book.specs.Holds.{put, without_hold}
use Rattle.book.specs.Saved.{EntriesOf}
use Rattle.book.specs.declared.rows.Rule.{Rule}
use Rattle.laws.specs.World.{World, Token, OutHere, RecordTooLong, Step, hold_grounds, not_out_ground, save_grounds, wrote, struck, ruled, unruled, held, released, saved}
use Rattle.planner.specs.View.{token, hold_answer, release_answer}
use Rattle.planner.specs.declared.planner.Hold.{Hold}
use Rattle.planner.specs.declared.planner.HandedBack.{HandedBack}
use Rattle.clients.specs.Rewritten.{gives_line}
use Rattle.clients.proofs.RewritingMenu.{rules_with, line_menu, record_fits}

-- planner 1 with this on line 0, this at place 0 of the rules, these holds out, and these numbers next
abbrev pub world : Option Statement → Option Rule → (ℕ → Option Held) → ℕ → ℕ → World
world line rule holds next next_hold = record {
  number = 1;
  book = record { lines = set (replicate 64 None) 0 line; rules = rules_with rule; holds = holds; next = next; next_hold = next_hold };
}

-- no hold, then the first one, on {0}, and then that one given back
abbrev pub no_holds : ℕ → Option Held
no_holds n = None

abbrev pub line_held : ℕ → Option Held
line_held = put no_holds 1 (Some (record { lines = 1 }))

abbrev pub line_free : ℕ → Option Held
line_free = put line_held 1 None

abbrev pub first_hold : Token
first_hold = record { planner = 1; number = 1 }

abbrev pub statement : ℕ → List ℕ → Statement
statement number words = record { number = number; words = words }

-- ---- words

-- words that are not bad are good
all_good : (words : List ℕ) → ((AllByRecursion (λ b. (33 ≤ b) × (b ≤ 126)) words → ⊥) → ⊥) → AllByRecursion (λ b. (33 ≤ b) × (b ≤ 126)) words
all_good [] not-bad = tt
all_good (b ∷ words) not-bad = ((low, high), all_good words (λ bad. not-bad (λ all. bad all.1)))
  where
    low : 33 ≤ b
    low = elim (dec_lt b 33) [ yes l ↦ absurd (not-bad (λ all. omega (arith, all.0.0))) | no l ↦ omega arith ]

    high : b ≤ 126
    high = elim (dec_lt 126 b) [ yes l ↦ absurd (not-bad (λ all. omega (arith, all.0.1))) | no l ↦ omega arith ]

good_words : (words : List ℕ) → ((GoodWords words → ⊥) → ⊥) → GoodWords words
good_words words not-bad = record {
  some = elim (dec_lt 0 (length words)) [ yes l ↦ omega arith | no l ↦ absurd (not-bad (λ good. omega (arith, good.some))) ];
  few = elim (dec_lt 24 (length words)) [ yes l ↦ absurd (not-bad (λ good. omega (arith, good.few))) | no l ↦ omega arith ];
  printable = all_good words (λ bad. not-bad (λ good. bad good.printable));
}

-- ---- the calls

-- with no ground a call is not refused
no_first : (gs : List Ground) (e : Refusal) → NoGround gs → FirstGround gs e → ⊥
no_first [] e none first = first
no_first (g ∷ gs) e none (inl here) = none.0 here.0
no_first (g ∷ gs) e none (inr later) = no_first gs e none.1 later.1

-- a world is its number and its book
abbrev planner_with : ℕ → Contents → World
planner_with number book = record { number = number; book = book }

same_world : (v w : World) → v.number ≡ w.number → v.book ≡ w.book → v ≡ w
same_world v w n b = ap (λ x. planner_with x v.book) n ∙ ap (planner_with w.number) b

-- accepted with good words, and this is the planner after; or refused for bad words
abbrev pub Wrote : List ℕ → Result ℕ Refusal → World → World → Type 0
Wrote words (Ok number) after w = GoodWords words × (after ≡ w)
Wrote words (Err e) after w = (GoodWords words → ⊥) × (e ≡ BadWords)

-- line 0 is empty
pub write_line : (rule : Option Rule) (holds : ℕ → Option Held) (next next_hold : ℕ) → next ≤ 65535 → (words : List ℕ) (answer : Result ℕ Refusal) (after : World)
    → Step bare (world None rule holds next next_hold) (wrote 0 words answer) after
    → Wrote words answer after (world (Some (statement next words)) rule holds (next + 1) next_hold)
write_line rule holds next next_hold low words (Ok number) after step = (good_words words step.1.0.1.1.0, same_world after _ step.0 step.1.1.1)
write_line rule holds next next_hold low words (Err e) after step =
    ⊎_elim (λ a. absurd (omega (arith, a.0))) (λ a.
    ⊎_elim (λ b. let no = b.0 in absurd (grind arith)) (λ b.
    ⊎_elim (λ c. c) (λ c.
    ⊎_elim (λ d. absurd (omega (arith, d.0))) (λ d. absurd d.1) c.1) b.1) a.1) step.1.0

module _ (s : Statement) (holds : ℕ → Option Held) (next next_hold : ℕ) where
  -- line 0 written, without the rule and with it
  abbrev pub line_only : World
  line_only = world (Some s) None holds next next_hold

  abbrev pub with_rule : World
  with_rule = world (Some s) (Some gives_line) holds next next_hold

  line_full : (n : ℕ) → Has 1 n → Full line_only.book.lines n
  line_full n h = subst (Full line_only.book.lines) (sym (single_only 0 n h)) refl

  rule_free : NoGround (rule_grounds line_only.book 0 gives_line)
  rule_free = (⊎_elim (λ h. omega arith) (λ h. omega arith), ((λ full. grind arith), ((λ v. v.2 (line_full v.0 v.1)), ((λ h. omega (arith, ones-le 0 0 (omega arith))), tt))))

  pub put_rule : (answer : Result (Unit {0}) Refusal) (after : World) → Step bare line_only (ruled 0 gives_line answer) after → (is_ok answer ≡ true) × (after ≡ with_rule)
  put_rule (Ok x) after step = (refl, same_world after _ step.0 step.1.1)
  put_rule (Err e) after step = absurd (no_first (rule_grounds line_only.book 0 gives_line) e rule_free step.1.0)

  pub take_rule : (answer : Result (Unit {0}) Refusal) (after : World) → Step bare with_rule (unruled 0 answer) after → (is_ok answer ≡ true) × (after ≡ line_only)
  take_rule (Ok x) after step = (refl, same_world after _ step.0 step.1.1)
  take_rule (Err e) after step = absurd (no_first (unrule_grounds with_rule.book 0) e ((λ h. omega arith), ((λ vacant. vacant refl), tt)) step.1.0)

none_out : (n : ℕ) → line_free n ≡ None
none_out n = by (eqb 1 n)
  where
    by : (b : Bool) → cond {A = Option Held} b None (cond b (Some (record { lines = 1 })) None) ≡ None
    by true = refl
    by false = refl

module _ (s : Statement) (next : ℕ) where
  hold_free : NoGround (hold_grounds bare (with_rule s no_holds next 1) 1)
  hold_free = ((λ h. omega arith), ((λ h. none_has h.0 h.1), ((λ none. none line_menu), ((λ h. omega arith), tt))))

  -- the first hold
  pub take_hold : (answer : Result Hold Refusal) (after : World) → Step bare (with_rule s no_holds next 1) (held 1 (hold_answer answer)) after
      → (is_ok answer ≡ true) × ((hold : Hold) → answer ≡ Ok hold → token hold ≡ first_hold) × (after ≡ with_rule s line_held next 2)
  take_hold (Ok hold) after step = (refl, (λ h e. let same : hold ≡ h = cc in ap token (sym same) ∙ step.1.1.0), same_world after _ step.0 step.1.1.1)
  take_hold (Err e) after step = absurd (no_first (hold_grounds bare (with_rule s no_holds next 1) 1) e hold_free step.1.0)

  abbrev holding : World
  holding = with_rule s line_held next 2

  module _ (hold : Token) (is-first : hold ≡ first_hold) where
    out_here : OutHere holding hold
    out_here = subst (OutHere holding) (sym is-first) (record { own = refl; out = refl })

    -- the record fits 7 bytes
    fits_seven : RecordTooLong holding.book hold.number 7 → ⊥
    fits_seven long =
        let found : Some (record { lines = 1 }) ≡ Some long.1.held = subst (λ h. holding.book.holds h.number ≡ Some long.1.held) is-first long.1.out in
        let lines : long.1.held.lines ≡ 1 = ap (λ h. h.lines) (some_same (sym found)) in
        let fits = record_fits holding.book long.0 (subst (λ n. EntriesOf holding.book n long.0) lines long.1.of) in
        omega (arith, long.2)

    pub save_hold : (before buffer : List ℕ) (answer : Result ℕ Refusal) (after : World) → length before ≡ 7 → Step bare holding (saved hold before buffer answer) after → is_ok answer ≡ true
    save_hold before buffer (Ok count) after room step = refl
    save_hold before buffer (Err e) after room step =
        let fits = subst (λ n. RecordTooLong holding.book hold.number n → ⊥) (sym room) fits_seven in
        absurd (no_first (save_grounds holding hold (length before)) e ((λ out. out out_here), (fits, tt)) step.1.0)

    pub give_back : (answer : Result (Unit {0}) HandedBack) (after : World) → Step bare holding (released hold (release_answer answer)) after
        → (is_ok answer ≡ true) × (after ≡ with_rule s line_free next 2)
    give_back (Ok x) after step = (refl, same_world after _ step.0 (step.1.0.1 ∙ ap (λ h. without_hold holding.book h.number) is-first))
    give_back (Err back) after step = absurd (no_first (not_out_ground holding hold ∷ []) back.refusal ((λ out. out out_here), tt) step.1.0.0)

  strike_free : NoGround (strike_grounds 0 (line_only s line_free next 2).book 0)
  strike_free = ((λ h. omega arith), ((λ vacant. vacant refl), ((λ h. no_some (sym (none_out h.0) ∙ h.2)), (⊎_elim (none_has 0) (none_has 0), tt))))

  pub strike_line : (answer : Result (Unit {0}) Refusal) (after : World) → Step bare (line_only s line_free next 2) (struck 0 answer) after
      → (is_ok answer ≡ true) × (after ≡ world None None line_free next 2)
  strike_line (Ok x) after step = (refl, same_world after _ step.0 step.1.1)
  strike_line (Err e) after step = absurd (no_first (strike_grounds 0 (line_only s line_free next 2).book 0) e strike_free step.1.0)
