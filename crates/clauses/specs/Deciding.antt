-- The tests that compute what follows decide what they should.
use Rattle.std.specs.Prelude.{ℕ, ◌/◌, ◌%◌, ◌^◌, ◌<◌, Bool, true, false, not, ◌||◌, ◌⊎◌, List, Some, None, Decides, Option, ◌==◌, ◌≢◌, bit_and, refl}
use Rattle.std.proofs.Common.{sym, subst, ◌∙◌, inl, inr, ⊎_elim, arith}
use Rattle.std.proofs.lemmas.Bool.Decides.{Decides-eqb, Decides-not, Decides-or, Decides-and, Decides-like, Decides-below_and, not_from_Decides, same_from_decides}
use Rattle.std.proofs.ByRecursion.{Decides-by_and}
use Rattle.sets.specs.Sets.{Has, IsLines}
use Rattle.sets.proofs.Lines.{and_has, and_has_left, and_has_right, and_from_within, within_from_and, outside_from_not_within, same_lines, none_has, has_below}
use Rattle.clauses.specs.Rows.{Meets, MeetsAll, MeetsSense, AllMeet, Left, Entailed}
use Rattle.clauses.specs.Computed.{all_below, meets, meets_all, meets_sense, is_left, entails, entails_sense}
use Rattle.clauses.specs.Words.{InTable, TableOf, in_table, Narrowed}
use Rattle.clauses.specs.declared.clause.Clause.{Clause}

pub all_below_decides : (p : ℕ → Bool) (P : ℕ → Type 0) → ((k : ℕ) → Decides (p k) (P k)) → (n : ℕ) → Decides (all_below p n) ((k : ℕ) → k < n → P k)
unfolding all_below
all_below_decides p P each n = Decides-below_and p P (all_below p) each refl (λ _. refl) n

decides_implies : {P Q : Type 0} (p q : Bool) → Decides p P → Decides q Q → Decides (not p || q) (P → Q)
decides_implies true q a b = (λ e h. b.0 e, λ f. b.1 (f (a.0 refl)))
decides_implies false q a b = (λ e h. absurd (not_from_Decides false a refl h), λ _. refl)

pub meets_decides : (c : Clause) (row : ℕ) → Decides (meets c row) (Meets c row)
meets_decides c row =
    Decides-like (meets c row) to from
    (Decides-or _ _ (Decides-not _ (Decides-eqb (bit_and c.first row) 0)) (Decides-not _ (Decides-eqb (bit_and c.second row) c.second)))
  where
    to : (bit_and c.first row ≢ 0) ⊎ (bit_and c.second row ≢ c.second) → Meets c row
    to (inl out) =
        let both = bit_and c.first row in
        let some = outside_from_not_within both 0 (λ w. out (same_lines both 0 w (λ n h. absurd (none_has n h)))) in
        (some.0, inl (and_has_left c.first row some.0 some.1, and_has_right c.first row some.0 some.1))
    to (inr out) = let some = outside_from_not_within c.second row (λ w. out (and_from_within c.second row w)) in (some.0, inr (some.1, some.2))

    from : Meets c row → (bit_and c.first row ≢ 0) ⊎ (bit_and c.second row ≢ c.second)
    from m =
        ⊎_elim (λ h. inl (λ e. none_has m.0 (subst (λ x. Has x m.0) e (and_has c.first row m.0 h.0 h.1))))
        (λ h. inr (λ e. h.1 (within_from_and c.second row e m.0 h.0)))
        m.1

meets_all_decides : (row : ℕ) (cs : List Clause) → Decides (meets_all row cs) (MeetsAll cs row)
meets_all_decides row cs = Decides-by_and (λ c. meets c row) (λ c. Meets c row) (meets_all row) (λ c. meets_decides c row) refl (λ _ _. refl) cs

-- a table of the rows that meet all the clauses, told by tests, or by what they decide
module _ (cs : List Clause) (words : List ℕ) where
  in_table_decides : (row : ℕ) → Decides (in_table words row) (InTable words row)
  in_table_decides row = Decides-eqb _ 1

  pub table_from_narrowed : Narrowed cs words → TableOf (MeetsAll cs) words
  table_from_narrowed same row l = (
    λ h. (meets_all_decides row cs).0 (sym (same row l) ∙ (in_table_decides row).1 h),
    λ m. (in_table_decides row).0 (same row l ∙ (meets_all_decides row cs).1 m),
  )

  pub narrowed_from_table : TableOf (MeetsAll cs) words → Narrowed cs words
  narrowed_from_table table row l = same_from_decides _ _ (Decides-like _ (table row l).0 (table row l).1 (in_table_decides row)) (meets_all_decides row cs)

meets_sense_decides : (row : ℕ) (o : Option Clause) → Decides (meets_sense row o) (MeetsSense o row)
meets_sense_decides row None = (λ _. tt, λ _. refl)
meets_sense_decides row (Some c) = meets_decides c row

module _ (atoms : ℕ) (clauses : List Clause) (sense : ℕ → Option Clause) (s : ℕ) (lines : IsLines s) where
  -- a row that is left, but for its being a row
  abbrev MeetsTold : ℕ → Type 0
  MeetsTold row = MeetsAll clauses row × ((n : ℕ) → n < 64 → Has s n → MeetsSense (sense n) row)

  is_left_decides : (row : ℕ) → Decides (is_left clauses sense s row) (MeetsTold row)
  unfolding is_left
  is_left_decides row =
      Decides-and _ _ (meets_all_decides row clauses)
      (all_below_decides (λ n. not ((s / 2 ^ n) % 2 == 1) || meets_sense row (sense n)) (λ n. Has s n → MeetsSense (sense n) row)
      (λ n. decides_implies _ _ (Decides-eqb ((s / 2 ^ n) % 2) 1) (meets_sense_decides row (sense n))) 64)

  entails_decides : (c : Clause) → Decides (entails atoms clauses sense s c) ((row : ℕ) → Left atoms clauses sense s row → Meets c row)
  unfolding entails
  entails_decides c =
      Decides-like _
      (λ all row left. all row left.is_row (left.clauses_met, λ n l h. left.senses_met n h))
      (λ all row l told. all row (record { is_row = l; clauses_met = told.0; senses_met = λ n h. told.1 n (has_below s n lines h) h }))
      (all_below_decides (λ row. not (is_left clauses sense s row) || meets c row) (λ row. MeetsTold row → Meets c row)
      (λ row. decides_implies _ _ (is_left_decides row) (meets_decides c row)) (2 ^ atoms))

  entails_sense_decides : (o : Option Clause) → Decides (entails_sense atoms clauses sense s o) (AllMeet (Left atoms clauses sense s) o)
  entails_sense_decides None = (λ e. grind arith, λ none. absurd none)
  entails_sense_decides (Some c) = entails_decides c

  pub entailed_decides : (n : ℕ) → Decides (entails_sense atoms clauses sense s (sense n)) (Entailed atoms clauses sense s n)
  entailed_decides n = entails_sense_decides (sense n)
