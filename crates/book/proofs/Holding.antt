-- Holds that are taken and given back: how they are seen by number, and how many are out.
use Rattle.std.proofs.Common.{◌≡◌, ℕ, zero, suc, ◌+◌, ◌<◌, ◌≤◌, Bool, true, false, cond, eqb, List, [], ◌∷◌, map, length, set, is_some, Some, None, Option, sym, refl, ap, ◌∙◌, subst, arith}
use mathlib.Core.Path.{fun_ext}
use native.Mathlib.Decide.{ℕ_discrete}
use Rattle.std.proofs.lemmas.Bool.Decides.{Decides-eqb}
use Rattle.std.specs.Option.{option_map}
use Rattle.sets.proofs.Rows.{some_same, no_some}
use Rattle.book.specs.Rows.{at, Full}
use Rattle.book.specs.Kept.{Distinct, Given}
use Rattle.book.specs.Contents.{Contents, Held}
use Rattle.book.specs.Holds.{count_below, put, with_hold, without_hold}
use Rattle.book.specs.View.{said, out_at, seen}
use Rattle.book.specs.declared.rows.HoldRow.{HoldRow}
use Rattle.book.specs.declared.rows.Tables.{Tables}
use Rattle.book.proofs.Tables.{not_full}
use Rattle.book.proofs.Keeping.{hold_seen}

-- a row as it is seen
abbrev pub shown : HoldRow → Option Held
shown h = Some (record { lines = h.lines })

-- no row of the table has this number
abbrev pub NoRow : List (Option HoldRow) → ℕ → Type 0
NoRow rows k = (i : ℕ) → option_map (λ h. h.number) (at rows i) ≡ Some k → ⊥

yes_eq : (a b : ℕ) → eqb a b ≡ true → a ≡ b
yes_eq a b e = (Decides-eqb a b).0 e

pub out_none : (rows : List (Option HoldRow)) (k : ℕ) → NoRow rows k → out_at rows k ≡ None
out_none [] k none = refl
out_none (None ∷ rows) k none = out_none rows k (λ i. none (suc i))
out_none (Some h ∷ rows) k none = by (eqb h.number k) refl (out_none rows k (λ i. none (suc i)))
  where
    by : (b : Bool) → eqb h.number k ≡ b → out_at rows k ≡ None → cond b (shown h) (out_at rows k) ≡ None
    by true e rest = absurd (none zero (ap Some (yes_eq h.number k e)))
    by false e rest = rest

-- two tests that are not both true may be asked in either order
swapped : {X : Type 0} (a b : Bool) (x y z : X) → (a ≡ true → b ≡ true → ⊥) → cond a x (cond b y z) ≡ cond b y (cond a x z)
swapped true true x y z both = absurd (both refl refl)
swapped true false x y z both = refl
swapped false true x y z both = refl
swapped false false x y z both = refl

-- a hold put to a free place is seen by its number, which no other has
pub out_taken : (rows : List (Option HoldRow)) (i : ℕ) (h : HoldRow) (n : ℕ) → i < length rows → at rows i ≡ None → NoRow rows h.number
    → out_at (set rows i (Some h)) n ≡ put (λ k. out_at rows k) h.number (shown h) n
out_taken [] i h n lt free none = absurd (omega arith)
out_taken (None ∷ rows) zero h n lt free none = refl
out_taken (None ∷ rows) (suc i) h n lt free none = out_taken rows i h n (omega arith) free (λ j. none (suc j))
out_taken (Some x ∷ rows) zero h n lt free none = absurd (no_some (sym free))
out_taken (Some x ∷ rows) (suc i) h n lt free none =
    ap (cond (eqb x.number n) (shown x)) (out_taken rows i h n (omega arith) free (λ j. none (suc j)))
    ∙ swapped (eqb x.number n) (eqb h.number n) (shown x) (shown h) (out_at rows n) (λ a b. none zero (ap Some (yes_eq x.number n a ∙ sym (yes_eq h.number n b))))

-- the rows behind the first are distinct too, and none of them has the first one's number
rest_distinct : (x : Option HoldRow) (rows : List (Option HoldRow)) → Distinct (λ h. h.number) (x ∷ rows) → Distinct (λ h. h.number) rows
rest_distinct x rows distinct i j h = let s = distinct (suc i) (suc j) h in omega arith

none_behind : (x : HoldRow) (rows : List (Option HoldRow)) → Distinct (λ h. h.number) (Some x ∷ rows) → NoRow rows x.number
none_behind x rows distinct i e = let s = distinct zero (suc i) (refl, sym e) in omega arith

-- a hold taken from its place is seen no more, and every other as it was
pub out_returned : (rows : List (Option HoldRow)) (i k n : ℕ) → Distinct (λ h. h.number) rows → option_map (λ h. h.number) (at rows i) ≡ Some k
    → out_at (set rows i None) n ≡ put (λ j. out_at rows j) k None n
out_returned [] i k n distinct e = absurd (no_some e)
out_returned (None ∷ rows) zero k n distinct e = absurd (no_some e)
out_returned (None ∷ rows) (suc i) k n distinct e = out_returned rows i k n (rest_distinct None rows distinct) e
out_returned (Some x ∷ rows) zero k n distinct e =
    by (eqb k n) refl ∙ ap (λ a. cond (eqb k n) None (cond a (shown x) (out_at rows n))) (ap (λ a. eqb a n) (sym (some_same e)))
  where
    by : (b : Bool) → eqb k n ≡ b → out_at rows n ≡ cond b None (cond (eqb k n) (shown x) (out_at rows n))
    by true f = out_none rows n (subst (NoRow rows) (some_same e ∙ yes_eq k n f) (none_behind x rows distinct))
    by false f = sym (ap (λ b. cond b (shown x) (out_at rows n)) f)
out_returned (Some x ∷ rows) (suc i) k n distinct e =
    ap (cond (eqb x.number n) (shown x)) (out_returned rows i k n (rest_distinct (Some x) rows distinct) e)
    ∙ swapped (eqb x.number n) (eqb k n) (shown x) None (out_at rows n) (λ a b. none_behind x rows distinct i (e ∙ ap Some (yes_eq k n b ∙ sym (yes_eq x.number n a))))

-- the row found by its number is seen by it
pub out_found : (rows : List (Option HoldRow)) (i k : ℕ) → Distinct (λ h. h.number) rows → option_map (λ h. h.number) (at rows i) ≡ Some k
    → (h : HoldRow) × (at rows i ≡ Some h) × (out_at rows k ≡ shown h)
out_found rows i k distinct e = by (at rows i) refl e
  where
    by : (o : Option HoldRow) → at rows i ≡ o → option_map (λ h. h.number) o ≡ Some k → (h : HoldRow) × (at rows i ≡ Some h) × (out_at rows k ≡ shown h)
    by None here f = absurd (no_some f)
    by (Some h) here f = (h, here, ap (out_at rows) (sym (some_same f)) ∙ hold_seen rows i h distinct here)

-- a number not given yet is in no row
pub no_row : (rows : List (Option HoldRow)) (next : ℕ) → Given (λ h. h.number) rows next → NoRow rows next
no_row rows next given i e = by (at rows i) refl e
  where
    by : (o : Option HoldRow) → at rows i ≡ o → option_map (λ h. h.number) o ≡ Some next → ⊥
    by None here f = no_some f
    by (Some h) here f = let same : h.number ≡ next = some_same f in omega (arith, (given i h here).1)

-- ---- how many are out

-- how many places are filled
abbrev pub filled : List (Option HoldRow) → ℕ
filled [] = 0
filled (None ∷ rows) = filled rows
filled (Some h ∷ rows) = 1 + filled rows

count_like : (p q : ℕ → Bool) (n : ℕ) → ((k : ℕ) → k < n → p k ≡ q k) → count_below p n ≡ count_below q n
count_like p q zero same = refl
count_like p q (suc n) same = ap (λ b. cond b 1 0 + count_below p n) (same n (omega arith)) ∙ ap (λ c. cond (q n) 1 0 + c) (count_like p q n (λ k lt. same k (omega arith)))

abbrev one : Bool → ℕ
one b = cond b 1 0

-- one more number has the property
count_more : (p q : ℕ → Bool) (a n : ℕ) → a < n → p a ≡ false → q a ≡ true → ((k : ℕ) → (k ≡ a → ⊥) → q k ≡ p k) → count_below q n ≡ 1 + count_below p n
count_more p q a zero lt lacks has same = absurd (omega arith)
count_more p q a (suc n) lt lacks has same = elim (ℕ_discrete n a) [
  | yes e ↦ omega (arith, ap one (ap q e ∙ has), ap one (ap p e ∙ lacks), count_like q p n (λ k below. same k (λ f. omega arith)))
  | no other ↦ omega (arith, ap one (same n other), count_more p q a n (omega arith) lacks has same)
]

count_none : (n : ℕ) → count_below (λ k. false) n ≡ 0
count_none zero = refl
count_none (suc n) = omega (arith, count_none n)

rest_given : (x : Option HoldRow) (rows : List (Option HoldRow)) (next : ℕ) → Given (λ h. h.number) (x ∷ rows) next → Given (λ h. h.number) rows next
rest_given x rows next given i = given (suc i)

-- as many numbers are out as places are filled
pub out_filled : (rows : List (Option HoldRow)) (next : ℕ) → Distinct (λ h. h.number) rows → Given (λ h. h.number) rows next
    → count_below (λ n. is_some (out_at rows n)) next ≡ filled rows
out_filled [] next distinct given = count_none next
out_filled (None ∷ rows) next distinct given = out_filled rows next (rest_distinct None rows distinct) (rest_given None rows next given)
out_filled (Some x ∷ rows) next distinct given =
    count_more (λ n. is_some (out_at rows n)) (λ n. is_some (out_at (Some x ∷ rows) n)) x.number next (given zero x refl).1
    (ap is_some (out_none rows x.number (none_behind x rows distinct)))
    (ap (λ b. is_some (cond b (shown x) (out_at rows x.number))) ((Decides-eqb x.number x.number).1 refl))
    (λ k other. other_test k other (eqb x.number k) refl)
    ∙ ap (λ c. 1 + c) (out_filled rows next (rest_distinct (Some x) rows distinct) (rest_given (Some x) rows next given))
  where
    other_test : (k : ℕ) → (k ≡ x.number → ⊥) → (b : Bool) → eqb x.number k ≡ b → is_some (cond b (shown x) (out_at rows k)) ≡ is_some (out_at rows k)
    other_test k other true e = absurd (other (sym (yes_eq x.number k e)))
    other_test k other false e = refl

pub filled_all : (rows : List (Option HoldRow)) → ((i : ℕ) → i < length rows → Full rows i) → filled rows ≡ length rows
filled_all [] full = refl
filled_all (None ∷ rows) full = absurd (not_full (None ∷ rows) zero refl (full zero (omega arith)))
filled_all (Some x ∷ rows) full = omega (arith, filled_all rows (λ i lt. full (suc i) (omega arith)))

filled_most : (rows : List (Option HoldRow)) → filled rows ≤ length rows
filled_most [] = omega arith
filled_most (None ∷ rows) = omega (arith, filled_most rows)
filled_most (Some x ∷ rows) = omega (arith, filled_most rows)

pub filled_free : (rows : List (Option HoldRow)) (i : ℕ) → i < length rows → at rows i ≡ None → filled rows < length rows
filled_free [] i lt free = absurd (omega arith)
filled_free (None ∷ rows) i lt free = omega (arith, filled_most rows)
filled_free (Some x ∷ rows) zero lt free = absurd (no_some (sym free))
filled_free (Some x ∷ rows) (suc i) lt free = omega (arith, filled_free rows i (omega arith) free)

-- ---- how the tables are seen

-- the rest of what is seen stays: other holds, and another next hold number
abbrev reheld : Tables → ℕ → (ℕ → Option Held) → Contents
reheld t next_hold holds = record { lines = map (option_map said) t.lines; rules = t.rules; holds = holds; next = t.next; next_hold = next_hold }

pub seen_taken : (t : Tables) (i : ℕ) (h : HoldRow) → i < length t.holds → at t.holds i ≡ None → Given (λ r. r.number) t.holds t.next_hold → h.number ≡ t.next_hold
    → reheld t (t.next_hold + 1) (λ n. out_at (set t.holds i (Some h)) n) ≡ with_hold (seen t) h.lines
seen_taken t i h lt free given new =
    ap (reheld t (t.next_hold + 1)) (fun_ext (λ n. out_taken t.holds i h n lt free (subst (NoRow t.holds) (sym new) (no_row t.holds t.next_hold given))))
    ∙ ap (λ k. reheld t (t.next_hold + 1) (put (λ n. out_at t.holds n) k (shown h))) new

pub seen_returned : (t : Tables) (i k : ℕ) → Distinct (λ h. h.number) t.holds → option_map (λ h. h.number) (at t.holds i) ≡ Some k
    → reheld t t.next_hold (λ n. out_at (set t.holds i None) n) ≡ without_hold (seen t) k
seen_returned t i k distinct e = ap (reheld t t.next_hold) (fun_ext (λ n. out_returned t.holds i k n distinct e))
