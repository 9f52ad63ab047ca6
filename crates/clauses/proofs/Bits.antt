-- Bits of rows: the six lowest are those of a place in a word, the others those of the word's number; and the constant words.
use Rattle.std.proofs.Common.{◌≡◌, ℕ, zero, suc, ◌+◌, ◌-◌, ◌*◌, ◌/◌, ◌%◌, ◌^◌, ◌<◌, eqb, List, [], ◌∷◌, get_or, sym, refl, ap, ◌∙◌, ⊎_elim, pow-suc, add-one, arith}
use Rattle.std.proofs.lemmas.Nat.{shr-shr, mod-pow-add, mod_below}
use Rattle.std.proofs.lemmas.Bool.Decides.{Decides-eqb}
use Rattle.sets.specs.Sets.{Has}
use Rattle.sets.proofs.Lines.{bit, bit_half, bit_low, has_or_not, none_has}
use Rattle.clauses.specs.Computed.{all_below}
use Rattle.clauses.specs.Words.{WordOf}
use Rattle.clauses.specs.Deciding.{all_below_decides}

low_split : (k n : ℕ) → n % 2 ^ suc k ≡ (n / 2 % 2 ^ k) * 2 + n % 2
low_split k n = sym (ap (λ j. n % 2 ^ j) (add-one k)) ∙ mod-pow-add n k 1

-- the k lowest bits of a number are those of its rest by 2 ^ k
pub low_bit : (k n a : ℕ) → a < k → bit (n % 2 ^ k) a ≡ bit n a
low_bit zero n a l = absurd (omega arith)
low_bit (suc k) n zero l = omega (arith, bit_low (n % 2 ^ suc k), bit_low n, low_split k n)
low_bit (suc k) n (suc a) l =
    let half : n % 2 ^ suc k / 2 ≡ n / 2 % 2 ^ k = omega (arith, low_split k n) in
    bit_half (n % 2 ^ suc k) a ∙ ap (λ x. bit x a) half ∙ low_bit k (n / 2) a (omega arith) ∙ sym (bit_half n a)

-- the others are those of its quotient
pub high_bit : (k n a : ℕ) → bit n (k + a) ≡ bit (n / 2 ^ k) a
high_bit k n a = sym (ap (λ x. x % 2) (shr-shr n k a))

-- the complement within k bits
pub other_bit : (k s n : ℕ) → s < 2 ^ k → n < k → bit (2 ^ k - 1 - s) n ≡ 1 - bit s n
other_bit zero s n l m = absurd (omega arith)
other_bit (suc k) s zero l m = omega (arith, bit_low (2 ^ suc k - 1 - s), bit_low s, pow-suc 2 k)
other_bit (suc k) s (suc n) l m =
    let e = pow-suc 2 k in
    let half : (2 ^ suc k - 1 - s) / 2 ≡ 2 ^ k - 1 - s / 2 = omega arith in
    let small : s / 2 < 2 ^ k = omega arith in
    bit_half (2 ^ suc k - 1 - s) n ∙ ap (λ x. bit x n) half ∙ other_bit k (s / 2) n small (omega arith) ∙ ap (λ x. 1 - x) (sym (bit_half s n))

-- the full word has every place
pub full_has : (n : ℕ) → n < 64 → Has (2 ^ 64 - 1) n
full_has n l = ⊎_elim (λ h. absurd (none_has n h)) (λ z. omega (arith, other_bit 64 0 n (omega arith) l)) (has_or_not 0 n)

-- ---- the constant words of the six lowest atoms

abbrev pub patterns : List ℕ
patterns =
    0xAAAA_AAAA_AAAA_AAAA ∷ 0xCCCC_CCCC_CCCC_CCCC ∷ 0xF0F0_F0F0_F0F0_F0F0 ∷ 0xFF00_FF00_FF00_FF00 ∷ 0xFFFF_0000_FFFF_0000 ∷ 0xFFFF_FFFF_0000_0000 ∷ []

-- place b is in the word of atom a exactly if b has bit a, tried at each
pattern_bit : (a b : ℕ) → a < 6 → b < 64 → bit (get_or patterns a 0) b ≡ bit b a
unfolding all_below
pattern_bit a b l m =
    (all_below_decides (λ i. all_below (λ j. eqb (bit (get_or patterns i 0) j) (bit j i)) 64) (λ i. (j : ℕ) → j < 64 → bit (get_or patterns i 0) j ≡ bit j i)
    (λ i. all_below_decides (λ j. eqb (bit (get_or patterns i 0) j) (bit j i)) (λ j. bit (get_or patterns i 0) j ≡ bit j i) (λ j. Decides-eqb _ _) 64)
    6).0 refl a l b m

-- ---- the rows of word w that say yes to atom a

pub yes_low : (a w : ℕ) → a < 6 → WordOf (λ row. Has row a) w (get_or patterns a 0)
yes_low a w l row e =
    let same : bit (get_or patterns a 0) (row % 64) ≡ bit row a = pattern_bit a (row % 64) l (mod_below row 64 (omega arith)) ∙ low_bit 6 row a l in
    (λ h. sym same ∙ h, λ h. same ∙ h)

above : (a w row : ℕ) → (a < 6 → ⊥) → row / 64 ≡ w → bit row a ≡ bit w (a - 6)
above a w row l e = let split : a ≡ 6 + (a - 6) = omega arith in ap (bit row) split ∙ high_bit 6 row (a - 6) ∙ ap (λ x. bit x (a - 6)) e

pub yes_all : (a w : ℕ) → (a < 6 → ⊥) → Has w (a - 6) → WordOf (λ row. Has row a) w (2 ^ 64 - 1)
yes_all a w l h row e = (λ _. above a w row l e ∙ h, λ _. full_has (row % 64) (mod_below row 64 (omega arith)))

pub yes_none : (a w : ℕ) → (a < 6 → ⊥) → (Has w (a - 6) → ⊥) → WordOf (λ row. Has row a) w 0
yes_none a w l out row e = (λ h. absurd (none_has (row % 64) h), λ h. absurd (out (sym (above a w row l e) ∙ h)))
