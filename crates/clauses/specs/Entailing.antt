-- What is computed is what follows, one set follows from each, and clauses are lawful facts.
use Rattle.std.specs.Prelude.{◌≡◌, ℕ, ◌<◌, true, false, List, length, is_some, Some, None, Option, refl}
use Rattle.std.proofs.Common.{sym, ap, ◌∙◌, inl, inr, ⊎_elim, arith}
use Rattle.std.proofs.Math.Decide.{dec_lt}
use Rattle.std.proofs.lemmas.Nat.{or_lt}
use Rattle.std.proofs.lemmas.List.{get_or_past}
use Rattle.arrayvec.specs.ArrayVec.{array_vec_len}
use Rattle.sets.specs.Sets.{Has, Within, IsLines}
use Rattle.sets.proofs.Lines.{or_has, or_has_left, or_has_right, none_has, same_lines}
use Rattle.facts.specs.Meaning.{Lawful}
use Rattle.clauses.specs.Rows.{Exactly, MeetsSense, AllMeet, Left, Follows, SensedLines}
use Rattle.clauses.specs.Computed.{gather, entails_sense, clausal}
use Rattle.clauses.specs.Told.{clauses_of, sense_of}
use Rattle.clauses.specs.declared.clause.Clause.{Clause}
use Rattle.clauses.specs.declared.clauses.Clauses.{Clauses}
use Rattle.clauses.specs.Deciding.{entailed_decides}
use Rattle.clauses.specs.Gathering.{gather_gathers, gather_below}

-- sets with one property of their lines are one set
pub same_by : (P : ℕ → Type 0) (r t : ℕ) → ((n : ℕ) → Exactly (Has r n) (P n)) → ((n : ℕ) → Exactly (Has t n) (P n)) → r ≡ t
same_by P r t a b = same_lines r t (λ n h. (b n).1 ((a n).0 h)) (λ n h. (a n).1 ((b n).0 h))

-- every line that has a sense is a line
abbrev pub OnLines : (ℕ → Option Clause) → Type 0
OnLines sense = (n : ℕ) → is_some (sense n) ≡ true → n < 64

pub sense_on_lines : (f : Clauses) → OnLines (sense_of f)
sense_on_lines f n e = elim (dec_lt n 64) [
  | yes l ↦ l
  | no l ↦ let out : false ≡ true = sym (ap is_some (get_or_past f.senses n None (omega (arith, f.lines)))) ∙ e in absurd (grind arith)
]

pub told_length : (f : Clauses) → length (clauses_of f) ≡ array_vec_len f.told
told_length f = refl

-- what all rows with P meet is a sense, all rows with less meet it, and each does
pub all_meet_some : (P : ℕ → Type 0) (o : Option Clause) → AllMeet P o → is_some o ≡ true
all_meet_some P None none = absurd none
all_meet_some P (Some c) all = refl

pub all_meet_fewer : (P Q : ℕ → Type 0) (o : Option Clause) → ((row : ℕ) → Q row → P row) → AllMeet P o → AllMeet Q o
all_meet_fewer P Q None less none = none
all_meet_fewer P Q (Some c) less all = λ row q. all row (less row q)

all_meet_at : (P : ℕ → Type 0) (o : Option Clause) (row : ℕ) → AllMeet P o → P row → MeetsSense o row
all_meet_at P None row none p = tt
all_meet_at P (Some c) row all p = all row p

module _ (atoms : ℕ) (clauses : List Clause) (sense : ℕ → Option Clause) (on : OnLines sense) where
  pub computed_follows : (s : ℕ) → IsLines s → Follows atoms clauses sense s ((clausal atoms clauses sense).follow s)
  computed_follows s l n =
      let test = λ (m : ℕ). entails_sense atoms clauses sense s (sense m) in
      let added = gather test 64 in
      let gathered = gather_gathers test 64 n in
      let decides = entailed_decides atoms clauses sense s l n in (
        λ h. ⊎_elim inl (λ k. ⊎_elim (λ z. absurd (none_has n z)) (λ m. inr (decides.0 m.1)) (gathered.0 k)) (or_has s added n h),
        ⊎_elim (or_has_left s added n) (λ e. or_has_right s added n (gathered.1 (inr (on n (all_meet_some (Left atoms clauses sense s) (sense n) e), decides.1 e)))),
      )

  pub computed_names : SensedLines sense (clausal atoms clauses sense).names
  computed_names n =
      let gathered = gather_gathers (λ m. is_some (sense m)) 64 n in (
        λ h. ⊎_elim (λ z. absurd (none_has n z)) (λ m. m.1) (gathered.0 h),
        λ e. gathered.1 (inr (on n e, e)),
      )

  follow_lines : (s : ℕ) → IsLines s → IsLines ((clausal atoms clauses sense).follow s)
  follow_lines s l = or_lt 64 s _ l (gather_below (λ n. entails_sense atoms clauses sense s (sense n)) 64)

  -- fewer lines leave more rows
  left_fewer : (s t row : ℕ) → Within s t → Left atoms clauses sense t row → Left atoms clauses sense s row
  left_fewer s t row w left = record { is_row = left.is_row; clauses_met = left.clauses_met; senses_met = λ n h. left.senses_met n (w n h) }

  -- what follows leaves the same rows
  left_after : (s r row : ℕ) → Follows atoms clauses sense s r → Left atoms clauses sense s row → Left atoms clauses sense r row
  left_after s r row f left = record {
    is_row = left.is_row;
    clauses_met = left.clauses_met;
    senses_met = λ n h. ⊎_elim (left.senses_met n) (λ e. all_meet_at (Left atoms clauses sense s) (sense n) row e left) ((f n).0 h);
  }

  pub clausal_lawful : Lawful (clausal atoms clauses sense)
  clausal_lawful = record {
    names_lines = gather_below (λ n. is_some (sense n)) 64;
    follow_lines = follow_lines;
    keeps = λ s l n h. (computed_follows s l n).1 (inl h);
    monotone = λ s t l k w n h.
        (computed_follows t k n).1 (⊎_elim (λ i. inl (w n i)) (λ e. inr (all_meet_fewer (Left atoms clauses sense s) (Left atoms clauses sense t) (sense n) (λ row. left_fewer s t row w) e)) ((computed_follows s l n).0 h));
    settled = λ s l. same_lines _ _
        (λ n h. ⊎_elim (λ i. i) (λ e. (computed_follows s l n).1 (inr (all_meet_fewer (Left atoms clauses sense ((clausal atoms clauses sense).follow s)) (Left atoms clauses sense s) (sense n) (λ row. left_after s _ row (computed_follows s l)) e)))
        ((computed_follows _ (follow_lines s l) n).0 h))
        (λ n h. (computed_follows _ (follow_lines s l) n).1 (inl h));
    named = λ s l n h.
        ⊎_elim (or_has_left s _ n) (λ e. or_has_right s _ n ((computed_names n).1 (all_meet_some (Left atoms clauses sense s) (sense n) e))) ((computed_follows s l n).0 h);
  }
