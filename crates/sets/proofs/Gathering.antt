-- Lines are gathered one after the other: those for which a test says yes.
use Rattle.std.proofs.Common.{◌≡◌, ℕ, ◌+◌, ◌<◌, ◌⊎◌, Bool, true, false, sym, subst, ⊎_elim, arith}
use native.Mathlib.Decide.{dec_lt}
use Rattle.sets.specs.Sets.{Has, Within}
use Rattle.sets.proofs.Lines.{none_has}

-- of the lines below k, those are in s for which the test says yes, and no other line is
abbrev pub GatheredBelow : (ℕ → Bool → Type 0) → ℕ → ℕ → Type 0
GatheredBelow P k s = ((n : ℕ) → Has s n → (n < k) × P n true) × ((n : ℕ) → n < k → (Has s n → ⊥) → P n false)

module _ (P : ℕ → Bool → Type 0) where
  pub gathered_none : GatheredBelow P 0 0
  gathered_none = (λ n h. absurd (none_has n h), λ n l _. absurd (omega arith))

  pub gathered_more : (k s t : ℕ) → GatheredBelow P k s → P k true → Within s t → Has t k → ((n : ℕ) → Has t n → Has s n ⊎ (n ≡ k)) → GatheredBelow P (k + 1) t
  gathered_more k s t g said w h only = (
    λ n i. ⊎_elim (λ j. let m = g.0 n j in (omega (arith, m.0), m.1)) (λ e. (omega arith, subst (λ m. P m true) (sym e) said)) (only n i),
    λ n l out. elim (dec_lt n k) [
      | yes m ↦ g.1 n m (λ i. out (w n i))
      | no m ↦ let e : n ≡ k = omega arith in absurd (out (subst (Has t) (sym e) h))
    ],
  )

  pub gathered_same : (k s : ℕ) → GatheredBelow P k s → P k false → GatheredBelow P (k + 1) s
  gathered_same k s g said = (
    λ n i. let m = g.0 n i in (omega (arith, m.0), m.1),
    λ n l out. elim (dec_lt n k) [ yes m ↦ g.1 n m out | no m ↦ let e : n ≡ k = omega arith in subst (λ m. P m false) (sym e) said ],
  )
