-- Bytes have one fault at most: the first.
use Rattle.std.proofs.Common.{◌≡◌, ℕ, ◌+◌, ◌⊎◌, List, [], ◌∷◌, ◌++◌, length, sym, refl, ap, ◌∙◌, subst, inl, inr}
use Rattle.std.specs.List.{flat_map}
use Rattle.record.specs.declared.entries.Entry.{Entry}
use Rattle.record.specs.declared.fault.Fault.{Fault}
use Rattle.record.specs.declared.fault.Fault.TheVariants.{Length, Version, Count, Entry as AtEntry}
use Rattle.record.specs.Record.{front_bytes, layout, Good}
use Rattle.record.specs.Faults.{FirstFaulty, FaultIn}
use Rattle.record.proofs.Rises.{good_front}
use Rattle.record.proofs.Layouts.{same_entry}

-- fs begins with es and then e
abbrev Begins : List Entry → Entry → List Entry → Type 0
Begins es e fs = (rest : List Entry) × (fs ≡ es ++ (e ∷ rest))

-- entries that the same bytes begin with
layouts_meet : (es fs : List Entry) (e f : Entry) (x y : List ℕ) → flat_map layout es ++ (layout e ++ x) ≡ flat_map layout fs ++ (layout f ++ y) → (es ≡ fs) ⊎ (Begins es e fs ⊎ Begins fs f es)
layouts_meet [] [] e f x y h = inl refl
layouts_meet [] (b ∷ fs) e f x y h = let b-is = same_entry b e (cc) (cc) (cc) in inr (inl (fs, cc))
layouts_meet (a ∷ es) [] e f x y h = let a-is = same_entry a f (cc) (cc) (cc) in inr (inr (es, cc))
layouts_meet (a ∷ es) (b ∷ fs) e f x y h =
    let a-is = same_entry a b (cc) (cc) (cc) in
    elim (layouts_meet es fs e f x y (cc)) [
      | inl same ↦ inl (cc)
      | inr (inl p) ↦ let tail = p.1 in inr (inl (p.0, cc))
      | inr (inr p) ↦ let tail = p.1 in inr (inr (p.0, cc))
    ]

same_place : (next : ℕ) (bytes : List ℕ) (p q : ℕ) → FirstFaulty next bytes p → FirstFaulty next bytes q → p ≡ q
same_place next bytes p q a b =
    elim (layouts_meet a.before b.before a.entry b.entry a.behind b.behind (sym a.stands ∙ b.stands)) [
      | inl same ↦ a.at ∙ ap (λ es. front_bytes + length (flat_map layout es)) same ∙ sym b.at
      | inr (inl m) ↦ absurd (a.faulty (good_front next a.before a.entry m.0 (subst (Good next) m.1 b.good)))
      | inr (inr m) ↦ absurd (b.faulty (good_front next b.before b.entry m.0 (subst (Good next) m.1 a.good)))
    ]

pub one_fault : (next : ℕ) (bytes : List ℕ) (f g : Fault) → FaultIn next bytes f → FaultIn next bytes g → f ≡ g
one_fault next bytes Length Length h k = refl
one_fault next bytes Length Version h k = absurd (h k.0)
one_fault next bytes Length Count h k = absurd (h k.0)
one_fault next bytes Length (AtEntry q) h k = absurd (h k.0)
one_fault next bytes Version Length h k = absurd (k h.0)
one_fault next bytes Version Version h k = refl
one_fault next bytes Version Count h k = absurd (h.1 k.1)
one_fault next bytes Version (AtEntry q) h k = absurd (h.1 k.1)
one_fault next bytes Count Length h k = absurd (k h.0)
one_fault next bytes Count Version h k = absurd (k.1 h.1)
one_fault next bytes Count Count h k = refl
one_fault next bytes Count (AtEntry q) h k = absurd (h.2 k.2)
one_fault next bytes (AtEntry p) Length h k = absurd (k h.0)
one_fault next bytes (AtEntry p) Version h k = absurd (k.1 h.1)
one_fault next bytes (AtEntry p) Count h k = absurd (k.2 h.2)
one_fault next bytes (AtEntry p) (AtEntry q) h k = ap AtEntry (same_place next bytes p q h.3 k.3)
