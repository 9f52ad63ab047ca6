-- A given set over lawful facts is lawful again.
use Rattle.std.specs.Prelude.{◌≡◌, ℕ, bit_or}
use Rattle.std.proofs.Common.{ap, ◌∙◌, ⊎_elim}
use Rattle.std.proofs.lemmas.Nat.{or_lt}
use Rattle.sets.specs.Sets.{Has, Within, IsLines}
use Rattle.sets.proofs.Lines.{or_has, or_has_left, or_has_right, or_within, same_lines}
use Rattle.facts.specs.Meaning.{Meaning, Lawful}
use Rattle.facts.specs.Given.{given}

-- a set that has the given lines stays as it is with them
pub or_part : (s a : ℕ) → Within a s → bit_or s a ≡ s
or_part s a w = same_lines (bit_or s a) s (or_within s a s (λ n h. h) w) (λ n h. or_has_left s a n h)

pub given_lawful : (a : ℕ) (m : Meaning) → IsLines a → Lawful m → Lawful (given a m)
given_lawful a m la lawful = record {
  names_lines = or_lt 64 m.names a lawful.names_lines la;
  follow_lines = λ s l. lawful.follow_lines (bit_or s a) (fits s l);
  keeps = λ s l n h. within s l n (or_has_left s a n h);
  monotone = λ s t l k w. lawful.monotone (bit_or s a) (bit_or t a) (fits s l) (fits t k)
      (or_within s a (bit_or t a) (λ n h. or_has_left t a n (w n h)) (λ n h. or_has_right t a n h));
  settled = λ s l. ap m.follow (or_part (after s) a (λ n h. within s l n (or_has_right s a n h))) ∙ lawful.settled (bit_or s a) (fits s l);
  named = λ s l n h. ⊎_elim (from s n) (λ k. or_has_right s (bit_or m.names a) n (or_has_left m.names a n k)) (or_has (bit_or s a) m.names n (lawful.named (bit_or s a) (fits s l) n h));
}
  where
    after : ℕ → ℕ
    after s = m.follow (bit_or s a)

    fits : (s : ℕ) → IsLines s → IsLines (bit_or s a)
    fits s l = or_lt 64 s a l la

    within : (s : ℕ) → IsLines s → Within (bit_or s a) (after s)
    within s l = lawful.keeps (bit_or s a) (fits s l)

    from : (s n : ℕ) → Has (bit_or s a) n → Has (bit_or s (bit_or m.names a)) n
    from s n h = or_within s a (bit_or s (bit_or m.names a)) (λ i k. or_has_left s (bit_or m.names a) i k) (λ i k. or_has_right s (bit_or m.names a) i (or_has_right m.names a i k)) n h
