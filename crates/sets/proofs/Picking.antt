-- The laws of guesses: what a guess picks, and that the guesses at a set and its parts answer to each other, one to one.
use Rattle.std.proofs.Common.{◌≡◌, ℕ, zero, suc, ◌+◌, ◌*◌, ◌/◌, ◌%◌, ◌^◌, ◌<◌, min, ◌⊎◌, sym, refl, ap, ◌∙◌, subst, inl, inr, mod-eq_of_lt, add_comm, one-mul, pow-suc, zero-mul, div-one, add-one, ⊎_elim, arith}
use native.Mathlib.Nat.{mod-one}
use native.Mathlib.Decide.{dec_lt}
use lib.Bits.{bit_and, bit_or}
use lib.Count.{ones, ones_cat}
use Rattle.std.proofs.lemmas.Nat.{pow_pos, mod-pow-add, mod_below, or_lt, and_mask, one_shl, shr-shr}
use Rattle.sets.specs.Sets.{Has, Within, IsLines}
use Rattle.sets.specs.Picks.{below, Picks}
use Rattle.sets.proofs.Lines.{bit, has_or_not, bit_of_or, bit_half, bit_low, has_under, has_below, none_has, single_has, single_only, same_lines}

-- ---- how many lines lie below a line

ones_digit : (d : ℕ) → d < 2 → ones d ≡ d
unfolding ones
ones_digit zero h = refl
ones_digit (suc zero) h = refl
ones_digit (suc (suc d)) h = absurd (omega arith)

pub below_more : (u n : ℕ) → below u (n + 1) ≡ below u n + bit u n
below_more u n =
    let split : u % 2 ^ (1 + n) ≡ bit u n * 2 ^ n + u % 2 ^ n = mod-pow-add u 1 n in
    let apart = ones_cat n (bit u n) (u % 2 ^ n) (mod_below u (2 ^ n) (pow_pos n)) in
    let low : ones (bit u n) ≡ bit u n = ones_digit (bit u n) (omega arith) in
    ap (λ k. below u k) (add_comm n 1) ∙ ap ones split ∙ apart ∙ omega (arith, low)

below_none : (u : ℕ) → below u 0 ≡ 0
below_none u = ap ones (mod-one u) ∙ ones_digit 0 (omega arith)

below_suc : (u n : ℕ) → below u (suc n) ≡ below u n + bit u n
below_suc u n = ap (λ k. below u k) (sym (add-one n)) ∙ below_more u n

-- the lines of a set below 64 are all of its lines
below_all : (u : ℕ) → IsLines u → below u 64 ≡ ones u
below_all u l = ap ones (mod-eq_of_lt l)

-- a line of u counts among those below a higher line
below_lt : (u n k : ℕ) → n < k → Has u n → below u n < below u k
below_lt u n zero l h = absurd (omega arith)
below_lt u n (suc k) l h =
    elim (dec_lt n k) [
      | yes m ↦ omega (arith, below_suc u k, below_lt u n k m h)
      | no m ↦ let e : n ≡ k = omega arith in omega (arith, below_suc u k, ap (λ x. below u x) e, ap (λ x. bit u x) e)
    ]

-- the line of u that comes j-th from below
pub line_at : (u k j : ℕ) → j < below u k → (n : ℕ) × (n < k) × Has u n × (below u n ≡ j)
line_at u zero j l = absurd (omega (arith, below_none u))
line_at u (suc k) j l =
    elim (dec_lt j (below u k)) [
      | yes m ↦ let r = line_at u k j m in (r.0, omega (arith, r.1), r.2, r.3)
      | no m ↦ (k, omega arith, omega (arith, below_suc u k), omega (arith, below_suc u k))
    ]

-- ---- a digit d at k, above a number s below 2 ^ k

digit_here : (d k : ℕ) → d < 2 → bit (d * 2 ^ k) k ≡ d
digit_here zero k h = ap (λ x. bit x k) (zero-mul (2 ^ k)) ∙ none (has_or_not 0 k)
  where
    none : Has 0 k ⊎ (bit 0 k ≡ 0) → bit 0 k ≡ 0
    none (inl m) = absurd (none_has k m)
    none (inr z) = z
digit_here (suc zero) k h = ap (λ x. bit x k) (one-mul (2 ^ k)) ∙ single_has k
digit_here (suc (suc d)) k h = absurd (omega arith)

digit_only : (d k n : ℕ) → d < 2 → Has (d * 2 ^ k) n → n ≡ k
digit_only zero k n h m = absurd (none_has n (ap (λ x. bit x n) (sym (zero-mul (2 ^ k))) ∙ m))
digit_only (suc zero) k n h m = single_only k n (ap (λ x. bit x n) (sym (one-mul (2 ^ k))) ∙ m)
digit_only (suc (suc d)) k n h m = absurd (omega arith)

put_here : (s k d : ℕ) → s < 2 ^ k → d < 2 → bit (bit_or s (d * 2 ^ k)) k ≡ d
put_here s k d l h = go (has_or_not s k)
  where
    go : Has s k ⊎ (bit s k ≡ 0) → bit (bit_or s (d * 2 ^ k)) k ≡ d
    go (inl m) = absurd (omega (arith, has_under k s k l m))
    go (inr z) = omega (arith, bit_of_or s (d * 2 ^ k) k, digit_here d k h)

put_else : (s k d n : ℕ) → d < 2 → (n ≡ k → ⊥) → bit (bit_or s (d * 2 ^ k)) n ≡ bit s n
put_else s k d n h other = go (has_or_not (d * 2 ^ k) n)
  where
    go : Has (d * 2 ^ k) n ⊎ (bit (d * 2 ^ k) n ≡ 0) → bit (bit_or s (d * 2 ^ k)) n ≡ bit s n
    go (inl m) = absurd (other (digit_only d k n h m))
    go (inr z) = omega (arith, bit_of_or s (d * 2 ^ k) n)

put_lt : (s k d : ℕ) → s < 2 ^ k → d < 2 → bit_or s (d * 2 ^ k) < 2 ^ (k + 1)
put_lt s k d l h =
    let e : 2 ^ (k + 1) ≡ 2 ^ k * 2 = ap (λ x. 2 ^ x) (add-one k) ∙ pow-suc 2 k in
    or_lt (k + 1) s (d * 2 ^ k) (omega (arith, e)) (digit_lt d h e)
  where
    digit_lt : (d : ℕ) → d < 2 → 2 ^ (k + 1) ≡ 2 ^ k * 2 → d * 2 ^ k < 2 ^ (k + 1)
    digit_lt zero h e = omega (arith, zero-mul (2 ^ k), pow_pos k)
    digit_lt (suc zero) h e = omega (arith, one-mul (2 ^ k), pow_pos k)
    digit_lt (suc (suc d)) h e = absurd (omega arith)

-- ---- what a guess picks, from the lowest line up

-- the lines of u below k are decided: those that g picks are in e, and rest has the other bits of g
pub record Done (u g rest e k : ℕ) : Type 0 where
  pub rest_is : rest ≡ g / 2 ^ below u k
  pub small : e < 2 ^ k
  pub bits : (n : ℕ) → n < k → bit e n ≡ min (bit u n) (bit g (below u n))

pub done_none : (u g : ℕ) → Done u g g 0 0
done_none u g = record {
  rest_is = sym (ap (λ x. g / 2 ^ x) (below_none u) ∙ div-one g);
  small = omega arith;
  bits = λ n h. absurd (omega arith);
}

pub done_all : (u g rest e : ℕ) → IsLines u → Done u g rest e 64 → Picks u g e
done_all u g rest e l s = record {
  part = λ n h. omega (arith, s.bits n (has_under 64 e n s.small h));
  into = λ n h m. omega (arith, s.bits n (has_under 64 e n s.small m));
  back = λ n h m. omega (arith, s.bits n (has_below u n l h));
}

-- a line that is not in u is passed over
pub done_pass : (u g rest e k : ℕ) → (Has u k → ⊥) → Done u g rest e k → Done u g rest e (k + 1)
done_pass u g rest e k out s = record {
  rest_is = s.rest_is ∙ ap (λ x. g / 2 ^ x) (omega (arith, below_more u k, zero));
  small = omega (arith, s.small, pow-suc 2 k, ap (λ x. 2 ^ x) (add-one k));
  bits = λ n l. elim (dec_lt n k) [ yes m ↦ s.bits n m | no m ↦ here n (omega arith) (has_or_not e n) ];
}
  where
    zero : bit u k ≡ 0
    zero = ⊎_elim (λ h. absurd (out h)) (λ z. z) (has_or_not u k)

    here : (n : ℕ) → n ≡ k → Has e n ⊎ (bit e n ≡ 0) → bit e n ≡ min (bit u n) (bit g (below u n))
    here n i (inl m) = absurd (omega (arith, has_under k e n s.small m))
    here n i (inr o) = omega (arith, ap (λ x. bit u x) i, zero)

-- a digit that is shifted stays whole
shifted : (d k : ℕ) → k < 64 → d < 2 → d * 2 ^ k % 2 ^ 64 ≡ d * 2 ^ k
shifted zero k l dig = ap (λ x. x % 2 ^ 64) (zero-mul (2 ^ k)) ∙ sym (zero-mul (2 ^ k))
shifted (suc zero) k l dig = one_shl k 64 l ∙ sym (one-mul (2 ^ k))
shifted (suc (suc d)) k l dig = absurd (omega arith)

-- a line that is in u takes the next bit of g
pub done_take : (u g rest e k : ℕ) → IsLines u → Has u k → Done u g rest e k → Done u g (rest / 2) (bit_or e (bit_and rest 1 * 2 ^ k % 2 ^ 64)) (k + 1)
done_take u g rest e k lines h s = record {
  rest_is = ap (λ x. x / 2) s.rest_is ∙ shr-shr g (below u k) 1 ∙ ap (λ x. g / 2 ^ x) (omega (arith, below_more u k));
  small = subst (λ (x : ℕ). x < 2 ^ (k + 1)) (sym new) (put_lt e k (bit g (below u k)) s.small dig);
  bits = λ n l. ap (λ x. bit x n) new ∙ elim (dec_lt n k) [ yes m ↦ put_else e k (bit g (below u k)) n dig (λ i. omega arith) ∙ s.bits n m | no m ↦ here n (omega arith) ];
}
  where
    dig : bit g (below u k) < 2
    dig = omega arith

    first : bit_and rest 1 ≡ bit g (below u k)
    first = and_mask rest 1 ∙ ap (λ x. x % 2) s.rest_is

    new : bit_or e (bit_and rest 1 * 2 ^ k % 2 ^ 64) ≡ bit_or e (bit g (below u k) * 2 ^ k)
    new = ap (λ x. bit_or e (x * 2 ^ k % 2 ^ 64)) first ∙ ap (bit_or e) (shifted (bit g (below u k)) k (has_below u k lines h) dig)

    here : (n : ℕ) → n ≡ k → bit (bit_or e (bit g (below u k) * 2 ^ k)) n ≡ min (bit u n) (bit g (below u n))
    here n i =
        ap (λ x. bit (bit_or e (bit g (below u k) * 2 ^ k)) x) i ∙ put_here e k (bit g (below u k)) s.small dig
        ∙ omega (arith, ap (λ x. bit u x) i, ap (λ x. bit g (below u x)) i)

-- ---- guesses and the sets that they pick

-- what a guess picks is one set
pub picks_same : (u g e d : ℕ) → Picks u g e → Picks u g d → e ≡ d
picks_same u g e d p q = same_lines e d (over e d p q) (over d e q p)
  where
    over : (e d : ℕ) → Picks u g e → Picks u g d → Within e d
    over e d p q n h = q.back n (p.part n h) (p.into n (p.part n h) h)

-- the highest bit in which a number differs from a larger one
top_differ : (k g h : ℕ) → g < h → h < 2 ^ k → (j : ℕ) × (j < k) × (bit g j ≡ 0) × (bit h j ≡ 1) × ((i : ℕ) → j < i → bit g i ≡ bit h i)
top_differ zero g h l m = absurd (omega arith)
top_differ (suc k) g h l m =
    elim (dec_lt (g / 2) (h / 2)) [
      | yes o ↦ let r = top_differ k (g / 2) (h / 2) o (omega (arith, pow-suc 2 k)) in (suc r.0, omega (arith, r.1), bit_half g r.0 ∙ r.2, bit_half h r.0 ∙ r.3, higher r.0 r.4)
      | no o ↦ (0, omega arith, omega (arith, bit_low g), omega (arith, bit_low h), rest (omega arith))
    ]
  where
    higher : (j : ℕ) → ((i : ℕ) → j < i → bit (g / 2) i ≡ bit (h / 2) i) → (i : ℕ) → suc j < i → bit g i ≡ bit h i
    higher j above zero o = absurd (omega arith)
    higher j above (suc i) o = bit_half g i ∙ above i (omega arith) ∙ sym (bit_half h i)

    rest : g / 2 ≡ h / 2 → (i : ℕ) → 0 < i → bit g i ≡ bit h i
    rest e zero o = absurd (omega arith)
    rest e (suc i) o = bit_half g i ∙ ap (λ x. bit x i) e ∙ sym (bit_half h i)

-- of the sets that two guesses pick, the larger guess's has the highest line in which they differ
pub guess_order : (u g h e d : ℕ) → IsLines u → g < h → h < 2 ^ ones u → Picks u g e → Picks u h d
    → (n : ℕ) × (Has u n) × (Has e n → ⊥) × (Has d n) × ((m : ℕ) → n < m → Has u m → (Has e m → Has d m) × (Has d m → Has e m))
guess_order u g h e d l o m p q =
    let t = top_differ (ones u) g h o m in
    let at = line_at u 64 t.0 (omega (arith, t.1, below_all u l)) in
    let same = λ (s : ℕ). ap (λ x. bit s x) at.3 in (
      at.0,
      at.2,
      λ i. omega (arith, same g, t.2, p.into at.0 at.2 i),
      q.back at.0 at.2 (same h ∙ t.3),
      λ n a i.
          let b = t.4 (below u n) (omega (arith, at.3, below_lt u at.0 n a at.2)) in
          (λ x. q.back n i (sym b ∙ p.into n i x), λ x. p.back n i (b ∙ q.into n i x)),
    )

-- two guesses that pick one set are one guess
pub guess_same : (u g h e : ℕ) → IsLines u → g < 2 ^ ones u → h < 2 ^ ones u → Picks u g e → Picks u h e → g ≡ h
guess_same u g h e l a b p q =
    elim (dec_lt g h) [
      | yes o ↦ absurd (apart g h o b p q)
      | no o ↦ elim (dec_lt h g) [ yes i ↦ absurd (apart h g i a q p) | no i ↦ omega arith ]
    ]
  where
    apart : (g h : ℕ) → g < h → h < 2 ^ ones u → Picks u g e → Picks u h e → ⊥
    apart g h o b p q = let t = guess_order u g h e e l o b p q in t.2 t.3

-- the bits of a guess for the lines of e below k
guess_under : (u e k : ℕ) → (g : ℕ) × (g < 2 ^ below u k) × ((n : ℕ) → n < k → Has u n → bit g (below u n) ≡ bit e n)
guess_under u e zero = (0, pow_pos (below u 0), λ n l h. absurd (omega arith))
guess_under u e (suc k) = go (guess_under u e k) (has_or_not u k)
  where
    go : (g : ℕ) × (g < 2 ^ below u k) × ((n : ℕ) → n < k → Has u n → bit g (below u n) ≡ bit e n)
        → Has u k ⊎ (bit u k ≡ 0) → (g : ℕ) × (g < 2 ^ below u (suc k)) × ((n : ℕ) → n < suc k → Has u n → bit g (below u n) ≡ bit e n)
    go r (inl i) =
        let up : below u k + 1 ≡ below u (suc k) = omega (arith, below_suc u k) in
        let dig : bit e k < 2 = omega arith in (
          bit_or r.0 (bit e k * 2 ^ below u k),
          subst (λ (x : ℕ). bit_or r.0 (bit e k * 2 ^ below u k) < 2 ^ x) up (put_lt r.0 (below u k) (bit e k) r.1 dig),
          λ n l h. elim (dec_lt n k) [
            | yes m ↦ put_else r.0 (below u k) (bit e k) (below u n) dig (λ x. omega (arith, below_lt u n k m h)) ∙ r.2 n m h
            | no m ↦
                let o : n ≡ k = omega arith in
                ap (λ x. bit (bit_or r.0 (bit e k * 2 ^ below u k)) (below u x)) o ∙ put_here r.0 (below u k) (bit e k) r.1 dig ∙ ap (λ x. bit e x) (sym o)
          ],
        )
    go r (inr z) =
        let up : below u k ≡ below u (suc k) = omega (arith, below_suc u k) in (
          r.0,
          subst (λ (x : ℕ). r.0 < 2 ^ x) up r.1,
          λ n l h. elim (dec_lt n k) [ yes m ↦ r.2 n m h | no m ↦ let o : n ≡ k = omega arith in absurd (omega (arith, ap (λ x. bit u x) o)) ],
        )

-- every part of u is picked by a guess
pub guess_of : (u e : ℕ) → IsLines u → Within e u → (g : ℕ) × (g < 2 ^ ones u) × Picks u g e
guess_of u e l w =
    let r = guess_under u e 64 in
    let at = λ (n : ℕ) (h : Has u n). r.2 n (has_below u n l h) h in (
      r.0,
      subst (λ (x : ℕ). r.0 < 2 ^ x) (below_all u l) r.1,
      record { part = w; into = λ n h i. at n h ∙ i; back = λ n h i. sym (at n h) ∙ i },
    )
