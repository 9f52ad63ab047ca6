-- The entries of a record, parted one by one into current and gone.
use Rattle.std.proofs.Common.{◌≡◌, ℕ, zero, suc, ◌+◌, ◌<◌, ◌⊎◌, List, [], ◌∷◌, ◌++◌, length, get_or, Some, sym, refl, subst, ⊎_elim, arith}
use Rattle.sets.specs.Sets.{Has, Within}
use Rattle.sets.proofs.Lines.{none_has}
use Rattle.record.specs.Record.{RisingFrom}
use Rattle.record.specs.declared.entries.Entry.{Entry}
use Rattle.book.specs.Contents.{Contents}
use Rattle.book.specs.Calls.{number_at}
use Rattle.book.specs.Saved.{Lists}
use Rattle.book.proofs.Saving.{lists_old, lists_new, lists_which}
use Rattle.laws.specs.World.{Parted}

pub parted_none : (c : Contents) → Parted c [] 0 0
parted_none c = record {
  still = λ n h. absurd (none_has n h);
  still_in = λ n k h. absurd h;
  past = λ n h. absurd (none_has n h);
  past_in = λ n k h. absurd h;
}

-- t is s with the line
abbrev pub WithLine : ℕ → ℕ → ℕ → Type 0
WithLine s line t = Within s t × Has t line × ((n : ℕ) → Has t n → Has s n ⊎ (n ≡ line))

-- The lines of listed entries with a property, over one entry more. P says of a line and a number that the entry belongs to the set.
module _ (P : ℕ → ℕ → Type 0) (es : List Entry) (e : Entry) where
  abbrev Sees : ℕ → List Entry → Type 0
  Sees s xs = (n : ℕ) → Has s n → (k : ℕ) × Lists xs n k × P n k

  abbrev Takes : ℕ → List Entry → Type 0
  Takes s xs = (n k : ℕ) → Lists xs n k → P n k → Has s n

  pub sees_old : (s : ℕ) → Sees s es → Sees s (es ++ (e ∷ []))
  sees_old s sees n h = let r = sees n h in (r.0, lists_old es e n r.0 r.1, r.2)

  pub sees_new : (s t : ℕ) → WithLine s e.line t → P e.line e.number → Sees s es → Sees t (es ++ (e ∷ []))
  sees_new s t more here sees n h =
      ⊎_elim (λ old. sees_old s sees n old) (λ same. (e.number, lists_new es e n e.number (sym same) refl, subst (λ x. P x e.number) (sym same) here)) (more.2 n h)

  pub takes_old : (s : ℕ) → (P e.line e.number → ⊥) → Takes s es → Takes s (es ++ (e ∷ []))
  takes_old s out takes n k h p =
      ⊎_elim (λ old. takes n k old p) (λ new. absurd (out (subst (λ x. P x e.number) (sym new.0) (subst (P n) (sym new.1) p)))) (lists_which es e n k h)

  pub takes_new : (s t : ℕ) → WithLine s e.line t → Takes s es → Takes t (es ++ (e ∷ []))
  takes_new s t more takes n k h p = ⊎_elim (λ old. more.0 n (takes n k old p)) (λ new. subst (Has t) new.0 more.1) (lists_which es e n k h)

module _ (c : Contents) (es : List Entry) (e : Entry) (current gone : ℕ) (so : Parted c es current gone) where
  abbrev Now : ℕ → ℕ → Type 0
  Now n k = number_at c n ≡ Some k

  abbrev Gone : ℕ → ℕ → Type 0
  Gone n k = number_at c n ≡ Some k → ⊥

  pub parted_now : (t : ℕ) → WithLine current e.line t → number_at c e.line ≡ Some e.number → Parted c (es ++ (e ∷ [])) t gone
  parted_now t more here = record {
    still = sees_new Now es e current t more here so.still;
    still_in = takes_new Now es e current t more so.still_in;
    past = sees_old Gone es e gone so.past;
    past_in = takes_old Gone es e gone (λ out. out here) so.past_in;
  }

  pub parted_gone : (t : ℕ) → WithLine gone e.line t → (number_at c e.line ≡ Some e.number → ⊥) → Parted c (es ++ (e ∷ [])) current t
  parted_gone t more out = record {
    still = sees_old Now es e current so.still;
    still_in = takes_old Now es e current out so.still_in;
    past = sees_new Gone es e gone t more out so.past;
    past_in = takes_new Gone es e gone t more so.past_in;
  }

-- no line of a record is above 63
pub rising_below : (least : ℕ) (es : List Entry) (i : ℕ) (d : Entry) → RisingFrom least es → i < length es → (get_or es i d).line < 64
rising_below least [] i d r lt = absurd (omega arith)
rising_below least (e ∷ es) zero d r lt = r.1
rising_below least (e ∷ es) (suc i) d r lt = rising_below (e.line + 1) es i d r.2 (omega arith)
