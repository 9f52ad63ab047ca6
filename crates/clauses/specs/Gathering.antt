-- Loops that gather lines into a set.
use Rattle.std.specs.Prelude.{◌≡◌, ℕ, zero, suc, ◌+◌, ◌^◌, ◌<◌, Bool, true, false, cond, ◌⊎◌, bit_or, refl}
use Rattle.std.proofs.Common.{sym, subst, inl, inr, ⊎_elim, pow-suc, add-one, arith}
use Rattle.std.proofs.Math.Decide.{ℕ_discrete}
use Rattle.std.proofs.lemmas.Nat.{pow_below, pow_pos, or_lt}
use Rattle.sets.specs.Sets.{Has, Within}
use Rattle.sets.proofs.Lines.{or_has, or_has_left, or_has_right, single_has, single_only, none_has}
use Rattle.clauses.specs.Rows.{Exactly}
use Rattle.clauses.specs.Computed.{gather}

-- s has the lines of `start` and the lines below k with P
abbrev pub Gathered : (ℕ → Type 0) → ℕ → ℕ → ℕ → Type 0
Gathered P start k s = (n : ℕ) → Exactly (Has s n) (Has start n ⊎ ((n < k) × P n))

module _ (P : ℕ → Type 0) (start : ℕ) where
  pub gathered_none : Gathered P start 0 start
  gathered_none n = (inl, ⊎_elim (λ h. h) (λ k. absurd (omega (arith, k.0))))

  module _ (k s : ℕ) (before : Gathered P start k s) where
    -- the next line is added
    pub gathered_more : (t : ℕ) → P k → Within s t → Has t k → ((n : ℕ) → Has t n → Has s n ⊎ (n ≡ k)) → Gathered P start (k + 1) t
    gathered_more t p up here only n = (
      λ h. ⊎_elim (λ i. ⊎_elim inl (λ j. inr (omega (arith, j.0), j.1)) ((before n).0 i)) (λ e. inr (omega arith, subst P (sym e) p)) (only n h),
      ⊎_elim (λ h. up n ((before n).1 (inl h)))
          (λ j. elim (ℕ_discrete n k) [ yes e ↦ subst (Has t) (sym e) here | no other ↦ up n ((before n).1 (inr (omega (arith, j.0), j.1))) ]),
    )

    -- the next line is not asked for
    pub gathered_same : (P k → ⊥) → Gathered P start (k + 1) s
    gathered_same out n = (
      λ h. ⊎_elim inl (λ j. inr (omega (arith, j.0), j.1)) ((before n).0 h),
      ⊎_elim (λ h. (before n).1 (inl h))
          (λ j. elim (ℕ_discrete n k) [ yes e ↦ absurd (out (subst P e j.1)) | no other ↦ (before n).1 (inr (omega (arith, j.0), j.1)) ]),
    )

    -- no line with P is above
    pub gathered_all : ((n : ℕ) → P n → n < k) → (n : ℕ) → Exactly (Has s n) (Has start n ⊎ P n)
    gathered_all below n =
        (λ h. ⊎_elim inl (λ j. inr j.1) ((before n).0 h), ⊎_elim (λ h. (before n).1 (inl h)) (λ p. (before n).1 (inr (below n p, p))))

-- a set gathered from none
pub from_none : (P : ℕ → Type 0) (s : ℕ) → ((n : ℕ) → Exactly (Has s n) (Has 0 n ⊎ P n)) → (n : ℕ) → Exactly (Has s n) (P n)
from_none P s is n = (λ h. ⊎_elim (λ k. absurd (none_has n k)) (λ p. p) ((is n).0 h), λ p. (is n).1 (inr p))

-- `gather` gathers the lines that pass the test
pub gather_gathers : (p : ℕ → Bool) (k : ℕ) → Gathered (λ n. p n ≡ true) 0 k (gather p k)
unfolding gather
gather_gathers p zero = gathered_none (λ n. p n ≡ true) 0
gather_gathers p (suc k) = subst (λ j. Gathered (λ n. p n ≡ true) 0 j (gather p (suc k))) (add-one k) (by (gather_gathers p k) (p k) refl)
  where
    old : ℕ
    old = gather p k

    by : Gathered (λ n. p n ≡ true) 0 k old → (b : Bool) → p k ≡ b → Gathered (λ n. p n ≡ true) 0 (k + 1) (bit_or old (cond b (2 ^ k) 0))
    by before true e n =
        gathered_more (λ n. p n ≡ true) 0 k old before (bit_or old (2 ^ k)) e (λ n h. or_has_left old (2 ^ k) n h) (or_has_right old (2 ^ k) k (single_has k))
        (λ n h. ⊎_elim inl (λ m. inr (single_only k n m)) (or_has old (2 ^ k) n h)) n
    by before false e n =
        let same = gathered_same (λ n. p n ≡ true) 0 k old before (λ f. grind arith) n in
        (λ h. ⊎_elim same.0 (λ m. absurd (none_has n m)) (or_has old 0 n h), λ j. or_has_left old 0 n (same.1 j))

pub gather_below : (p : ℕ → Bool) (k : ℕ) → gather p k < 2 ^ k
unfolding gather
gather_below p zero = omega arith
gather_below p (suc k) =
    or_lt (suc k) (gather p k) (cond (p k) (2 ^ k) 0) (omega (arith, gather_below p k, pow-suc 2 k)) (by (p k))
  where
    by : (b : Bool) → cond b (2 ^ k) 0 < 2 ^ suc k
    by true = pow_below k (suc k) (omega arith)
    by false = pow_pos (suc k)
