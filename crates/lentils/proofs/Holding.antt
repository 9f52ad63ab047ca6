-- A hold is out from the call that answers it on, also after strikes and unrules.
use Rattle.std.proofs.Common.{◌≡◌, ℕ, true, is_some, Some, Ok, Err, Result, sym, refl, ap, ◌∙◌, ⊎_elim}
use Rattle.sets.specs.declared.refusal.Refusal.{Refusal}
use Rattle.facts.specs.Meaning.{Meaning}
use Rattle.book.specs.Calls.{Strike, Unrule}
use Rattle.book.specs.Holds.{put}
use Rattle.laws.specs.World.{World, Token, Step, OutHere, held}
use Rattle.laws.proofs.Puts.{hold_puts}

pub out_taken : (m : Meaning) (w after : World) (set : ℕ) (hold : Token) → Step m w (held set (Ok hold)) after → OutHere after hold
out_taken m w after set hold s =
    let here = s.1.1.0 in
    let row = Some (record { lines = set }) in
    let at_next : is_some (put w.book.holds w.book.next_hold row w.book.next_hold) ≡ true =
    ⊎_elim (λ new. ap is_some new.0) (λ old. absurd (old.1 refl)) (hold_puts w.book.holds w.book.next_hold row w.book.next_hold) in
    record {
      own = ap (λ t. t.planner) here ∙ sym s.0;
      out = ap (λ b. is_some (b.holds hold.number)) s.1.1.1 ∙ ap (λ t. is_some (put w.book.holds w.book.next_hold row t.number)) here ∙ at_next;
    }

module _ (w after : World) (hold : Token) (out : OutHere w hold) (number : after.number ≡ w.number) where
  -- with the same holds it is still out
  stays_out : after.book.holds ≡ w.book.holds → OutHere after hold
  stays_out holds = record { own = out.own ∙ sym number; out = ap (λ f. is_some (f hold.number)) holds ∙ out.out }

  pub out_struck : (named line : ℕ) (answer : Result (Unit {0}) Refusal) → Strike named w.book line answer after.book → OutHere after hold
  out_struck named line (Ok x) s = stays_out (ap (λ b. b.holds) s.1)
  out_struck named line (Err e) s = stays_out (ap (λ b. b.holds) s.1)

  pub out_unruled : (place : ℕ) (answer : Result (Unit {0}) Refusal) → Unrule w.book place answer after.book → OutHere after hold
  out_unruled place (Ok x) s = stays_out (ap (λ b. b.holds) s.1)
  out_unruled place (Err e) s = stays_out (ap (λ b. b.holds) s.1)
