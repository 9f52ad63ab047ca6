-- Tables as functions of the place, and one write to a table.
use Rattle.std.proofs.Common.{◌≡◌, ℕ, ◌<◌, true, cond, ◌⊎◌, List, length, set, is_some, Some, None, Option, sym, ap, ◌∙◌, subst, inl, inr, ⊎_elim}
use native.Mathlib.Decide.{ℕ_discrete}
use Rattle.std.proofs.lemmas.List.{get_or-set_same, get_or-set_other}
use Rattle.std.proofs.lemmas.Bool.Decides.{eqb_tells}
use Rattle.book.specs.Rows.{at}
use Rattle.book.specs.Contents.{Held}
use Rattle.book.specs.Holds.{put}

-- the table t has v at place k, and all else as the table s has it
abbrev pub Puts : {X : Type 0} → (ℕ → Option X) → ℕ → Option X → (ℕ → Option X) → Type 0
Puts s k v t = (n : ℕ) → ((t n ≡ v) × (n ≡ k)) ⊎ ((t n ≡ s n) × (n ≡ k → ⊥))

pub set_puts : {X : Type 0} (rows : List (Option X)) (k : ℕ) (v : Option X) → k < length rows → Puts (at rows) k v (at (set rows k v))
set_puts rows k v l n = elim (ℕ_discrete n k) [
  | yes same ↦ inl (ap (at (set rows k v)) same ∙ get_or-set_same rows k v None l, same)
  | no other ↦ inr (get_or-set_other rows k n v None other, other)
]

pub hold_puts : (holds : ℕ → Option Held) (k : ℕ) (v : Option Held) → Puts holds k v (put holds k v)
hold_puts holds k v n = ⊎_elim
    (λ same. inl (ap (λ b. cond b v (holds n)) same.0, sym same.1))
    (λ other. inr (ap (λ b. cond b v (holds n)) other.0, λ e. other.1 (sym e)))
    (eqb_tells k n)

module _ {X : Type 0} (s : ℕ → Option X) (k : ℕ) (v : Option X) (t : ℕ → Option X) (puts : Puts s k v t) where
  -- what holds of each row before and of the one written holds of each row after
  pub each_put : (P : ℕ → X → Type 0) → ((n : ℕ) (x : X) → s n ≡ Some x → P n x) → ((x : X) → v ≡ Some x → P k x) → (n : ℕ) (x : X) → t n ≡ Some x → P n x
  each_put P each here n x e =
      ⊎_elim (λ new. subst (λ i. P i x) (sym new.1) (here x (sym new.0 ∙ e))) (λ old. each n x (sym old.0 ∙ e)) (puts n)

  -- a place filled before is filled after, unless it is the one written
  pub full_put : (n : ℕ) → is_some v ≡ true ⊎ (n ≡ k → ⊥) → is_some (s n) ≡ true → is_some (t n) ≡ true
  full_put n (inl some) full = ⊎_elim (λ new. ap is_some new.0 ∙ some) (λ old. ap is_some old.0 ∙ full) (puts n)
  full_put n (inr other) full = ⊎_elim (λ new. absurd (other new.1)) (λ old. ap is_some old.0 ∙ full) (puts n)
