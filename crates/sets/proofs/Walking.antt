-- A walk over the lines of a set: the lowest line is taken off.
use Rattle.std.proofs.Common.{◌≡◌, ◌≢◌, ℕ, zero, suc, ◌+◌, ◌-◌, ◌*◌, ◌%◌, ◌^◌, ◌<◌, ◌≤◌, Some, None, sym, ap, ◌∙◌, subst, ⊎_elim, arith}
use native.Mathlib.Decide.{dec_lt, ℕ_discrete}
use lib.Bits.{bit_xor}
use Rattle.std.proofs.lemmas.Nat.Bits.{bit_at_xor}
use Rattle.std.proofs.lemmas.Nat.{one_shl}
use Rattle.sets.specs.Sets.{Has, IsLines, TakesLowest}
use Rattle.sets.proofs.Lines.{bit, has_or_not, has_below, single_has, single_only, none_has, within_le}

module _ (s k : ℕ) (lines : IsLines s) (has : Has s k) where
  -- the set without line k
  abbrev pub off : ℕ
  off = bit_xor s (1 * 2 ^ k % 2 ^ 64)

  one : 1 * 2 ^ k % 2 ^ 64 ≡ 2 ^ k
  one = one_shl k 64 (has_below s k lines has)

  off_bit : (n : ℕ) → bit off n ≡ (bit s n + bit (2 ^ k) n) % 2
  off_bit n = bit_at_xor s (1 * 2 ^ k % 2 ^ 64) n ∙ ap (λ x. (bit s n + bit x n) % 2) one

  off_k : bit off k ≡ 0
  off_k = omega (arith, off_bit k, single_has k, has)

  off_other : (n : ℕ) → n ≢ k → bit off n ≡ bit s n
  off_other n other = ⊎_elim (λ h. absurd (other (single_only k n h))) (λ z. omega (arith, off_bit n, z)) (has_or_not (2 ^ k) n)

  -- line k is the lowest
  pub taken : ((n : ℕ) → n < k → bit s n ≡ 0) → TakesLowest s (Some k) off
  taken lower = (
    has,
    (λ n h. elim (dec_lt n k) [ yes l ↦ absurd (omega (arith, lower n l)) | no m ↦ omega arith ]),
    λ n. (
      (λ h. elim (ℕ_discrete n k) [ yes e ↦ absurd (omega (arith, off_k, ap (bit off) e)) | no other ↦ (sym (off_other n other) ∙ h, other) ]),
      λ h other. off_other n other ∙ h,
    ),
  )

  pub less : off < s
  less =
      let part = within_le off s (λ n h. elim (ℕ_discrete n k) [ yes e ↦ absurd (omega (arith, off_k, ap (bit off) e)) | no other ↦ sym (off_other n other) ∙ h ]) in
      let differ : off ≢ s = λ e. omega (arith, off_k, ap (λ x. bit x k) e, has) in
      omega (arith, part, differ)

-- ---- a loop over the lines of a set

-- the lines of s from k on are left
abbrev pub LeftFrom : ℕ → ℕ → ℕ → Type 0
LeftFrom s k left = (n : ℕ) → (Has left n → Has s n × (k ≤ n)) × (Has s n → k ≤ n → Has left n)

-- P holds of the lines below one of them, and those from there on are left
pub record Walked (P : ℕ → Type 0) (s left : ℕ) : Type 0 where
  pub upto : ℕ
  pub few : upto ≤ 64
  pub holds : P upto
  pub rest : LeftFrom s upto left

pub walk_start : (P : ℕ → Type 0) (s : ℕ) → P 0 → Walked P s s
walk_start P s p = record { upto = 0; few = omega arith; holds = p; rest = λ n. ((λ h. (h, omega arith)), λ h _. h) }

-- the lowest line left was dealt with
pub walk_on : (P Q : ℕ → Type 0) (s left line after : ℕ) → IsLines s → Walked P s left → TakesLowest left (Some line) after → Q (line + 1) → Walked Q s after
walk_on P Q s left line after lines w takes q =
    let here = (w.rest line).0 takes.0 in
    let low = has_below s line lines here.0 in record {
      upto = line + 1;
      few = omega arith;
      holds = q;
      rest = λ n. (
        (λ h. let was = (takes.2 n).0 h in let in_s = (w.rest n).0 was.0 in (in_s.0, omega (arith, takes.1 n was.0, was.1))),
        λ h from. (takes.2 n).1 ((w.rest n).1 h (omega (arith, here.1))) (λ e. omega arith),
      );
    }

module _ (P : ℕ → Type 0) (s : ℕ) (pass : (k : ℕ) → (Has s k → ⊥) → P k → P (k + 1)) where
  -- lines that are not in the set are passed over
  over : (d k : ℕ) → ((n : ℕ) → k ≤ n → n < k + d → Has s n → ⊥) → P k → P (k + d)
  over zero k none p = subst P (omega arith) p
  over (suc d) k none p = subst P (omega arith) (over d (k + 1) (λ n from to. none n (omega arith) (omega arith)) (pass k (none k (omega arith) (omega arith)) p))

  past : (k m : ℕ) → k ≤ m → ((n : ℕ) → k ≤ n → n < m → Has s n → ⊥) → P k → P m
  past k m l none p =
      let d : k + (m - k) ≡ m = omega arith in
      subst P d (over (m - k) k (λ n from to. none n from (omega arith)) p)

  -- up to the lowest line left
  pub walk_to : (left line after : ℕ) → Walked P s left → TakesLowest left (Some line) after → Has s line × P line
  walk_to left line after w takes =
      let here = (w.rest line).0 takes.0 in
      (here.0, past w.upto line here.1 (λ n from to h. let low = takes.1 n ((w.rest n).1 h from) in omega arith) w.holds)

  -- no line is left
  pub walk_end : (left after : ℕ) → Walked P s left → TakesLowest left None after → P 64
  walk_end left after w takes =
      past w.upto 64 w.few (λ n from to h. none_has n (subst (λ x. Has x n) takes.0 ((w.rest n).1 h from))) w.holds
