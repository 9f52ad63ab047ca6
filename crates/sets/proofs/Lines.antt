-- The laws of sets of lines: membership in unions, common parts and single lines, order, and equality by members.
use Rattle.std.proofs.Common.{◌≡◌, ℕ, zero, suc, ◌+◌, ◌/◌, ◌%◌, ◌^◌, ◌<◌, ◌≤◌, min, max, ◌⊎◌, sym, refl, ap, ◌∙◌, subst, inl, inr, ⊎_elim, lt_of_lt_of_le, le_antisymm, pow-suc, div-one, one-add, arith, pow_mono}
use native.Mathlib.Nat.{zero-div, div-eq_of_lt}
use native.Mathlib.Decide.{dec_lt}
use lib.Bits.{bit_and, bit_or, and_shr, or_shr, and_step, or_step}
use lib.Count.{ones, ones_in, ones_step}
use Rattle.std.proofs.lemmas.Nat.{shr-shr}
use Rattle.sets.specs.Sets.{Has, Within, IsLines, Smallest}

-- bit n of s
abbrev pub bit : ℕ → ℕ → ℕ
bit s n = (s / 2 ^ n) % 2

-- a line is in or its bit is 0
pub has_or_not : (s n : ℕ) → Has s n ⊎ (bit s n ≡ 0)
has_or_not s n = grind arith

pub bit_of_or : (s t n : ℕ) → bit (bit_or s t) n ≡ max (bit s n) (bit t n)
bit_of_or s t n = rw or_shr (omega (arith, or_step (s / 2 ^ n) (t / 2 ^ n)))

pub bit_of_and : (s t n : ℕ) → bit (bit_and s t) n ≡ min (bit s n) (bit t n)
bit_of_and s t n = rw and_shr (omega (arith, and_step (s / 2 ^ n) (t / 2 ^ n)))

pub or_has_left : (s t n : ℕ) → Has s n → Has (bit_or s t) n
or_has_left s t n h = omega (arith, bit_of_or s t n)

pub or_has_right : (s t n : ℕ) → Has t n → Has (bit_or s t) n
or_has_right s t n h = omega (arith, bit_of_or s t n)

pub or_has : (s t n : ℕ) → Has (bit_or s t) n → Has s n ⊎ Has t n
or_has s t n h = let e = bit_of_or s t n in grind arith

pub and_has_left : (s t n : ℕ) → Has (bit_and s t) n → Has s n
and_has_left s t n h = omega (arith, bit_of_and s t n)

pub and_has_right : (s t n : ℕ) → Has (bit_and s t) n → Has t n
and_has_right s t n h = omega (arith, bit_of_and s t n)

pub and_has : (s t n : ℕ) → Has s n → Has t n → Has (bit_and s t) n
and_has s t n h k = omega (arith, bit_of_and s t n)

-- the lines of s above 0, each one lower, are those of s / 2
pub bit_half : (s n : ℕ) → bit s (suc n) ≡ bit (s / 2) n
bit_half s n =
    let down : s / 2 / 2 ^ n ≡ s / 2 ^ (1 + n) = shr-shr s 1 n in
    sym (ap (λ x. x % 2) (down ∙ ap (λ k. s / 2 ^ k) (one-add n)))

pub bit_low : (s : ℕ) → bit s 0 ≡ s % 2
bit_low s = ap (λ x. x % 2) (div-one s)

half_below : (s k : ℕ) → s < 2 ^ suc k → s / 2 < 2 ^ k
half_below s k l = let e = pow-suc 2 k in omega arith

within_half : (s t : ℕ) → Within s t → Within (s / 2) (t / 2)
within_half s t w n h = sym (bit_half t n) ∙ w (suc n) (bit_half s n ∙ h)

low_within : (s t : ℕ) → Within s t → s % 2 ≤ t % 2
low_within s t w = ⊎_elim (λ h. omega (arith, bit_low s, bit_low t, w 0 h)) (λ z. omega (arith, bit_low s)) (has_or_not s 0)

-- a set within another is no larger a number
within_le_under : (k s t : ℕ) → s < 2 ^ k → Within s t → s ≤ t
within_le_under zero s t l w = omega arith
within_le_under (suc k) s t l w =
    let half : s / 2 ≤ t / 2 = within_le_under k (s / 2) (t / 2) (half_below s k l) (within_half s t w) in
    omega (arith, low_within s t w)

below_power : (n : ℕ) → n < 2 ^ n
below_power zero = omega arith
below_power (suc n) = let e = pow-suc 2 n in let ih = below_power n in omega arith

pub within_le : (s t : ℕ) → Within s t → s ≤ t
within_le s t w = within_le_under s s t (below_power s) w

-- sets with the same lines are one set
pub same_lines : (s t : ℕ) → Within s t → Within t s → s ≡ t
same_lines s t v w = le_antisymm (within_le s t v) (within_le t s w)

-- every line of a number below 2 ^ k is below k
pub has_under : (k s n : ℕ) → s < 2 ^ k → Has s n → n < k
has_under k s n l h = elim (dec_lt n k) [ yes m ↦ m | no m ↦ absurd (past (omega arith)) ]
  where
    past : k ≤ n → ⊥
    past m = let z : s / 2 ^ n ≡ 0 = div-eq_of_lt (lt_of_lt_of_le l (pow_mono m)) in omega (arith, ap (λ x. x % 2) z)

-- a set all of whose lines lie below k is a number below 2 ^ k
pub under_from_below : (k s : ℕ) → ((n : ℕ) → Has s n → n < k) → s < 2 ^ k
under_from_below zero s all = omega (arith, within_le s 0 (λ n h. absurd (omega (arith, all n h))))
under_from_below (suc k) s all =
    let half : s / 2 < 2 ^ k = under_from_below k (s / 2) (λ n h. omega (arith, all (suc n) (bit_half s n ∙ h))) in
    omega (arith, pow-suc 2 k)

-- every line of a set is below 64
pub has_below : (s n : ℕ) → IsLines s → Has s n → n < 64
has_below s n l h = has_under 64 s n l h

-- the set of one line has that line and no other
halved : (k : ℕ) → 2 ^ suc k / 2 ≡ 2 ^ k
halved k = omega (arith, pow-suc 2 k)

single_half : (k n : ℕ) → bit (2 ^ suc k) (suc n) ≡ bit (2 ^ k) n
single_half k n = bit_half (2 ^ suc k) n ∙ ap (λ x. bit x n) (halved k)

pub single_has : (k : ℕ) → Has (2 ^ k) k
single_has zero = refl
single_has (suc k) = single_half k k ∙ single_has k

pub single_only : (k n : ℕ) → Has (2 ^ k) n → n ≡ k
single_only zero zero h = refl
single_only zero (suc n) h =
    let z : (1 / 2) / 2 ^ n ≡ 0 = zero-div (2 ^ n) in
    let e : bit 1 (suc n) ≡ 0 = bit_half 1 n ∙ ap (λ x. x % 2) z in
    absurd (omega arith)
single_only (suc k) zero h = absurd (omega (arith, bit_low (2 ^ suc k), pow-suc 2 k))
single_only (suc k) (suc n) h = ap suc (single_only k n (sym (single_half k n) ∙ h))

pub none_has : (n : ℕ) → Has 0 n → ⊥
none_has n h = omega (arith, ap (λ x. x % 2) (zero-div (2 ^ n)))

-- a common part is the whole of the first set exactly where the first lies in the second
pub within_from_and : (s t : ℕ) → bit_and s t ≡ s → Within s t
within_from_and s t e n h = and_has_right s t n (ap (λ x. bit x n) e ∙ h)

pub and_from_within : (s t : ℕ) → Within s t → bit_and s t ≡ s
and_from_within s t w = same_lines (bit_and s t) s (λ n h. and_has_left s t n h) (λ n h. and_has s t n h (w n h))

-- unions group as they like
pub or_within : (a b t : ℕ) → Within a t → Within b t → Within (bit_or a b) t
or_within a b t v w n h = ⊎_elim (v n) (w n) (or_has a b n h)

pub or_group : (a b c : ℕ) → bit_or (bit_or a b) c ≡ bit_or a (bit_or b c)
or_group a b c =
    same_lines (bit_or (bit_or a b) c) (bit_or a (bit_or b c))
    (or_within (bit_or a b) c _ (or_within a b _ (λ n h. or_has_left a (bit_or b c) n h) (λ n h. or_has_right a (bit_or b c) n (or_has_left b c n h))) (λ n h. or_has_right a (bit_or b c) n (or_has_right b c n h)))
    (or_within a (bit_or b c) _ (λ n h. or_has_left (bit_or a b) c n (or_has_left a b n h)) (or_within b c _ (λ n h. or_has_left (bit_or a b) c n (or_has_right a b n h)) (λ n h. or_has_right (bit_or a b) c n h)))

-- two smallest sets with one property are one set
pub smallest_same : (P : ℕ → Type 0) (s t : ℕ) → Smallest P s → Smallest P t → s ≡ t
smallest_same P s t a b = same_lines s t (a.least t b.lines b.has) (b.least s a.lines a.has)

-- the smallest set with a property is the smallest with any property of the same sets
pub smallest_like : (P Q : ℕ → Type 0) (s : ℕ) → ((t : ℕ) → P t → Q t) → ((t : ℕ) → Q t → P t) → Smallest P s → Smallest Q s
smallest_like P Q s to from a = record { lines = a.lines; has = to s a.has; least = λ t l q. a.least t l (from t q) }

-- a set that does not lie in another has a line that the other lacks
line_outside : (k s t : ℕ) → ((n : ℕ) × Has s n × (Has t n → ⊥)) ⊎ ((n : ℕ) → n < k → Has s n → Has t n)
line_outside zero s t = inr (λ n l h. absurd (omega arith))
line_outside (suc k) s t = ⊎_elim inl (λ all. here all (has_or_not s k) (has_or_not t k)) (line_outside k s t)
  where
    upto : ((n : ℕ) → n < k → Has s n → Has t n) → (Has s k → Has t k) → (n : ℕ) → n < suc k → Has s n → Has t n
    upto all at n l h = elim (dec_lt n k) [ yes m ↦ all n m h | no m ↦ let e : n ≡ k = omega arith in subst (Has t) (sym e) (at (subst (Has s) e h)) ]

    here : ((n : ℕ) → n < k → Has s n → Has t n) → Has s k ⊎ (bit s k ≡ 0) → Has t k ⊎ (bit t k ≡ 0) → ((n : ℕ) × Has s n × (Has t n → ⊥)) ⊎ ((n : ℕ) → n < suc k → Has s n → Has t n)
    here all (inl a) (inl b) = inr (upto all (λ _. b))
    here all (inl a) (inr b) = inl (k, a, λ c. omega arith)
    here all (inr a) b = inr (upto all (λ c. absurd (omega arith)))

pub outside_from_not_within : (s t : ℕ) → (Within s t → ⊥) → (n : ℕ) × Has s n × (Has t n → ⊥)
outside_from_not_within s t out = ⊎_elim (λ x. x) (λ all. absurd (out (λ n h. all n (has_under s s n (below_power s) h) h))) (line_outside s s t)

ones_none : ones 0 ≡ 0
unfolding ones ones_in
ones_none = refl

-- a part has no more lines than the whole
ones_within_under : (k s t : ℕ) → s < 2 ^ k → Within s t → ones s ≤ ones t
ones_within_under zero s t l w = let z : s ≡ 0 = omega arith in let none : ones s ≡ 0 = ap ones z ∙ ones_none in omega arith
ones_within_under (suc k) s t l w =
    let small : s / 2 < 2 ^ k = half_below s k l in
    let rest : ones (s / 2) ≤ ones (t / 2) = ones_within_under k (s / 2) (t / 2) small (within_half s t w) in
    omega (arith, ones_step s, ones_step t, low_within s t w)

pub ones_within : (s t : ℕ) → Within s t → ones s ≤ ones t
ones_within s t w = ones_within_under s s t (below_power s) w
