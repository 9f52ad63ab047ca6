-- What one change does to the tables, as the calls tell it: which lines are written, which rules there are, which holds are out.
use Rattle.std.proofs.Common.{◌≡◌, ℕ, ◌<◌, true, ◌⊎◌, ◌↔◌, List, [], set, is_some, Some, None, Option, sym, refl, ap, ◌∙◌, subst, inl, inr, ⊎_elim, arith}
use native.Mathlib.Decide.{ℕ_discrete}
use Rattle.std.specs.Option.{option_map}
use Rattle.sets.proofs.Rows.{some_same, no_some}
use Rattle.facts.specs.Meaning.{Meaning}
use Rattle.book.specs.Rows.{at, Full}
use Rattle.book.specs.Contents.{Contents, Statement, Held}
use Rattle.book.specs.Calls.{number_at}
use Rattle.book.proofs.Tables.{not_full, full_from_number}
use Rattle.book.specs.declared.rows.Rule.{Rule}
use Rattle.laws.specs.World.{World, Token, OutHere}
use Rattle.laws.specs.Runs.{Change, fills, empties, adds, removes, takes, returns, nothing, ToPlace}
use Rattle.laws.proofs.Steps.{moved, Allowed}
use Rattle.laws.proofs.Logs.{Turns}
use Rattle.laws.proofs.Puts.{Puts, set_puts, hold_puts}
use Rattle.laws.proofs.Soundness.{Sound}

-- the table that a change is to: the lines, the rules, the holds, or none
abbrev table : Change → ℕ
table (fills line number) = 0
table (empties line) = 0
table (adds place rule) = 1
table (removes place) = 1
table (takes hold lines) = 2
table (returns hold) = 2
table nothing = 3

module _ {made undone : Change → Type 0} (c : Change) where
  -- a change to another table leaves all as it was
  untouched : (k : ℕ) → (made c → table c ≡ k) → (undone c → table c ≡ k) → (table c ≡ k → ⊥) → (P : Type 0) → Turns made undone c P P
  untouched k a b other P = record { makes = λ h. absurd (other (a h)); keeps = λ p u. p; comes = λ p. inr (p, λ u. other (b u)) }

  -- a change that writes o to place k, and the fact that place n has P
  put_turns : {X : Type 0} (s : ℕ → Option X) (k : ℕ) (o : Option X) (t : ℕ → Option X) → Puts s k o t → (P : Option X → Type 0) (n : ℕ)
      → (made c → (n ≡ k) × P o) → (P o → n ≡ k → made c) → (undone c → n ≡ k) → (n ≡ k → P (s n) → (undone c → ⊥) → P o)
      → Turns made undone c (P (s n)) (P (t n))
  put_turns s k o t puts P n makes made-here undone-here stays = record {
    makes = λ h. ⊎_elim (λ new. subst P (sym new.0) (makes h).1) (λ old. absurd (old.1 (makes h).0)) (puts n);
    keeps = λ p u. ⊎_elim (λ new. subst P (sym new.0) (stays new.1 p u)) (λ old. subst P (sym old.0) p) (puts n);
    comes = λ q. ⊎_elim (λ new. inl (made-here (subst P new.0 q) new.1)) (λ old. inr (subst P old.0 q, λ u. old.1 (undone-here u))) (puts n);
  }

-- a fact that a line is written, that a place has a rule, or that a hold on some lines is out, before a change and after it
abbrev LineTurns : ℕ → Change → Type 0 → Type 0 → Type 0
LineTurns n c P Q = Turns (λ d. (number : ℕ) × (d ≡ fills n number)) (λ d. d ≡ empties n) c P Q

abbrev RuleTurns : ℕ → Rule → Change → Type 0 → Type 0 → Type 0
RuleTurns p r c P Q = Turns (λ d. d ≡ adds p r) (ToPlace p) c P Q

abbrev HoldTurns : Token → ℕ → Change → Type 0 → Type 0 → Type 0
HoldTurns t s c P Q = Turns (λ d. d ≡ takes t s) (λ d. d ≡ returns t) c P Q

-- changes of two kinds are not one
fills_empties : {line number n : ℕ} → fills line number ≡ empties n → ⊥
fills_empties {line} {number} {n} e = let z : ◌≡◌ {A = ℕ} 0 1 = cc in omega arith

adds_removes : {place p : ℕ} {rule : Rule} → adds place rule ≡ removes p → ⊥
adds_removes {place} {p} {rule} e = let z : ◌≡◌ {A = ℕ} 0 1 = cc in omega arith

takes_lines : {hold t : Token} {lines s : ℕ} → takes hold lines ≡ takes t s → lines ≡ s
takes_lines e = cc

takes_returns : {hold t : Token} {lines : ℕ} → takes hold lines ≡ returns t → ⊥
takes_returns {hold} {t} {lines} e = let z : ◌≡◌ {A = ℕ} 0 1 = cc in omega arith

token_same : (t u : Token) → t.planner ≡ u.planner → t.number ≡ u.number → t ≡ u
token_same t u a b =
    let token : ℕ → ℕ → Token = λ planner number. record { planner = planner; number = number } in
    ap (λ x. token x t.number) a ∙ ap (token u.planner) b

other_line : (n : ℕ) (c : Change) → (table c ≡ 0 → ⊥) → (P : Type 0) → LineTurns n c P P
other_line n c = untouched c 0 (λ h. ap table h.1) (λ u. ap table u)

other_rule : (p : ℕ) (r : Rule) (c : Change) → (table c ≡ 1 → ⊥) → (P : Type 0) → RuleTurns p r c P P
other_rule p r c = untouched c 1 (λ h. ap table h) (⊎_elim (λ u. ap table u.1) (λ u. ap table u))

other_hold : (t : Token) (s : ℕ) (c : Change) → (table c ≡ 2 → ⊥) → (P : Type 0) → HoldTurns t s c P P
other_hold t s c = untouched c 2 (λ h. ap table h) (λ u. ap table u)

-- this row says that the hold is out on these lines, if this planner answered it
abbrev pub OutAs : ℕ → Token → ℕ → Option Held → Type 0
OutAs number t s o = (t.planner ≡ number) × (o ≡ Some (record { lines = s }))

-- a hold that is not refused as not out is this planner's
pub own : (w : World) (hold : Token) → ((OutHere w hold → ⊥) → ⊥) → hold.planner ≡ w.number
own w hold out = elim (ℕ_discrete hold.planner w.number) [ yes e ↦ e | no other ↦ absurd (out (λ h. other h.own)) ]

-- a change empties the line, which then lacks the number, or leaves it as it was whether the line has the number
abbrev pub NumberTurns : ℕ → ℕ → Change → Contents → Contents → Type 0
NumberTurns n k c b after =
    ((c ≡ empties n) × (number_at after n ≡ Some k → ⊥)) ⊎ ((c ≡ empties n → ⊥) × (number_at after n ≡ Some k ↔ number_at b n ≡ Some k))

module _ (m : Meaning) (w : World) (sound : Sound w.book) (words : List ℕ) where
  line_puts : (line : ℕ) (o : Option Statement) → (63 < line → ⊥) → Puts (at w.book.lines) line o (at (set w.book.lines line o))
  line_puts line o low = set_puts w.book.lines line o (let n = sound.lines_are in omega arith)

  -- a line is written from a write of it until a strike of it
  pub lines_turn : (n : ℕ) (c : Change) → Allowed m w c words → LineTurns n c (Full w.book.lines n) (Full (moved w.book c words).lines n)
  lines_turn n (fills line number) l =
      put_turns (fills line number) _ line _ _ (line_puts line _ l.0.0) (λ o. is_some o ≡ true) n
      (λ h. let e = h.1 in (cc, refl))
      (λ p e. (number, cc))
      (λ u. absurd (fills_empties u))
      (λ e p u. refl)
  lines_turn n (empties line) l =
      put_turns (empties line) _ line None _ (line_puts line None l.0) (λ o. is_some o ≡ true) n
      (λ h. absurd (fills_empties (sym h.1)))
      (λ p e. absurd (not_full {X = Statement} [] 0 refl p))
      (λ u. cc)
      (λ e p u. absurd (u (cc)))
  lines_turn n (adds place rule) l = other_line n (adds place rule) (λ e. omega arith) _
  lines_turn n (removes place) l = other_line n (removes place) (λ e. omega arith) _
  lines_turn n (takes hold lines) l = other_line n (takes hold lines) (λ e. omega arith) _
  lines_turn n (returns hold) l = other_line n (returns hold) (λ e. omega arith) _
  lines_turn n nothing l = other_line n nothing (λ e. omega arith) _

  rule_puts : (place : ℕ) (o : Option Rule) → (39 < place → ⊥) → Puts (at w.book.rules) place o (at (set w.book.rules place o))
  rule_puts place o low = set_puts w.book.rules place o (let n = sound.rules_are in omega arith)

  -- a place has a rule from the call that adds it until the next change to the place
  pub rules_turn : (p : ℕ) (r : Rule) (c : Change) → Allowed m w c words → RuleTurns p r c (at w.book.rules p ≡ Some r) (at (moved w.book c words).rules p ≡ Some r)
  rules_turn p r (adds place rule) l =
      put_turns (adds place rule) _ place _ _ (rule_puts place (Some rule) (λ h. l.0 (inl h))) (λ o. o ≡ Some r) p
      (λ h. (cc, cc))
      (λ h e. cc)
      (⊎_elim (λ u. let e = u.1 in cc) (λ u. absurd (adds_removes u)))
      (λ e h u. absurd (u (inl (rule, cc))))
  rules_turn p r (removes place) l =
      put_turns (removes place) _ place None _ (rule_puts place None l.0) (λ o. o ≡ Some r) p
      (λ h. absurd (adds_removes (sym h)))
      (λ h e. absurd (no_some h))
      (⊎_elim (λ u. absurd (adds_removes (sym u.1))) (λ u. cc))
      (λ e h u. absurd (u (inr (cc))))
  rules_turn p r (fills line number) l = other_rule p r (fills line number) (λ e. omega arith) _
  rules_turn p r (empties line) l = other_rule p r (empties line) (λ e. omega arith) _
  rules_turn p r (takes hold lines) l = other_rule p r (takes hold lines) (λ e. omega arith) _
  rules_turn p r (returns hold) l = other_rule p r (returns hold) (λ e. omega arith) _
  rules_turn p r nothing l = other_rule p r nothing (λ e. omega arith) _

  -- a hold is out from the call that answers it until it is given back
  pub holds_turn : (t : Token) (s : ℕ) (c : Change) → Allowed m w c words
      → HoldTurns t s c (OutAs w.number t s (w.book.holds t.number)) (OutAs w.number t s ((moved w.book c words).holds t.number))
  holds_turn t s (takes hold lines) l =
      put_turns (takes hold lines) _ w.book.next_hold _ _ (hold_puts w.book.holds w.book.next_hold (Some (record { lines = lines }))) (OutAs w.number t s) t.number
      (λ h.
      let same : t ≡ record { planner = w.number; number = w.book.next_hold } = let e = l.1 in cc in
      (ap (λ x. x.number) same, (ap (λ x. x.planner) same, ap (λ x. Some (record { lines = x })) (takes_lines h))))
      (λ h e. let same = token_same t hold (h.0 ∙ sym (ap (λ x. x.planner) l.1)) (e ∙ sym (ap (λ x. x.number) l.1)) in let on : lines ≡ s = ap (λ x. x.lines) (some_same h.1) in cc)
      (λ u. absurd (takes_returns u))
      (λ e h u. let g = (sound.held t.number _ h.1).given in absurd (omega arith))
  holds_turn t s (returns hold) l =
      put_turns (returns hold) _ hold.number None _ (hold_puts w.book.holds hold.number None) (OutAs w.number t s) t.number
      (λ h. absurd (takes_returns (sym h)))
      (λ h e. absurd (no_some h.1))
      (λ u. cc)
      (λ e h u. absurd (u (ap returns (token_same hold t (own w hold l ∙ sym h.0) (sym e)))))
  holds_turn t s (fills line number) l = other_hold t s (fills line number) (λ e. omega arith) _
  holds_turn t s (empties line) l = other_hold t s (empties line) (λ e. omega arith) _
  holds_turn t s (adds place rule) l = other_hold t s (adds place rule) (λ e. omega arith) _
  holds_turn t s (removes place) l = other_hold t s (removes place) (λ e. omega arith) _
  holds_turn t s nothing l = other_hold t s nothing (λ e. omega arith) _

  number_stays : (n k : ℕ) (c : Change) → (c ≡ empties n → ⊥) → at (moved w.book c words).lines n ≡ at w.book.lines n → NumberTurns n k c w.book (moved w.book c words)
  number_stays n k c not e = let same = ap (option_map (λ s. s.number)) e in inr (not, (λ h. sym same ∙ h, λ h. same ∙ h))

  -- a number given before is never given again
  pub numbers_turn : (n k : ℕ) (c : Change) → k < w.book.next → Allowed m w c words → NumberTurns n k c w.book (moved w.book c words)
  numbers_turn n k (fills line number) low l =
      ⊎_elim
      (λ new. inr (
        fills_empties,
        (
          λ h. let e : w.book.next ≡ k = some_same (sym (ap (option_map (λ s. s.number)) new.0) ∙ h) in absurd (omega arith),
          λ h. absurd (l.0.1.0 (subst (Full w.book.lines) new.1 (full_from_number (λ s. s.number) w.book.lines n k h))),
        ),
      ))
      (λ old. number_stays n k (fills line number) fills_empties old.0)
      (line_puts line _ l.0.0 n)
  numbers_turn n k (empties line) low l =
      ⊎_elim
      (λ new. inl (ap empties (sym new.1), λ h. no_some (sym (ap (option_map (λ s. s.number)) new.0) ∙ h)))
      (λ old. number_stays n k (empties line) (λ u. old.1 (cc)) old.0)
      (line_puts line None l.0 n)
  numbers_turn n k (adds place rule) low l = number_stays n k (adds place rule) (λ u. omega (arith, ap table u)) refl
  numbers_turn n k (removes place) low l = number_stays n k (removes place) (λ u. omega (arith, ap table u)) refl
  numbers_turn n k (takes hold lines) low l = number_stays n k (takes hold lines) (λ u. omega (arith, ap table u)) refl
  numbers_turn n k (returns hold) low l = number_stays n k (returns hold) (λ u. omega (arith, ap table u)) refl
  numbers_turn n k nothing low l = number_stays n k nothing (λ u. omega (arith, ap table u)) refl
