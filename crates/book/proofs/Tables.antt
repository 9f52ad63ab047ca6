-- Tables of optional rows: what one write changes, the lines of all rows together, and how tables are seen.
use Rattle.std.proofs.Common.{◌≡◌, ◌≢◌, ℕ, zero, suc, ◌+◌, ◌<◌, Bool, true, false, cond, eqb, ltb, ◌⊎◌, List, [], ◌∷◌, map, length, drop, get_or, set, replicate, is_none, is_some, Some, None, Option, sym, refl, ap, ◌∙◌, subst, inl, inr, ⊎_elim, arith}
use native.Mathlib.Decide.{dec_lt, ℕ_discrete}
use lib.Bits.{bit_or}
use Rattle.std.proofs.lemmas.List.{get_or-set_same, get_or-set_other, get_or_past, set_past, drop_more}
use Rattle.std.specs.Bool.{Decides, MatchBool}
use Rattle.std.specs.Option.{option_map, MatchOption}
use Rattle.std.specs.List.{position, position_or_len, AllWithin, HoldsAt}
use Rattle.std.proofs.lemmas.Bool.Decides.{Decides-eqb, Decides-ltb, not_from_Decides}
use Rattle.std.proofs.lemmas.List.Sums.{passes_at_first, fails_before_first}
use Rattle.sets.specs.Sets.{Has, Within}
use Rattle.sets.proofs.Lines.{or_has, or_has_left, or_has_right, or_group, none_has}
use Rattle.sets.proofs.Rows.{replicate_each, some_same, no_some}
use Rattle.book.specs.Rows.{at, Full, union}

-- ---- places

module _ {X : Type 0} where
  pub not_full : (rows : List (Option X)) (n : ℕ) → at rows n ≡ None → Full rows n → ⊥
  not_full rows n e full = let f : is_some {T = X} None ≡ true = sym (ap is_some e) ∙ full in grind arith

  pub full_below : (rows : List (Option X)) (i : ℕ) → Full rows i → i < length rows
  full_below rows i full = elim (dec_lt i (length rows)) [ yes l ↦ l | no l ↦ absurd (not_full rows i (get_or_past rows i None (omega arith)) full) ]

  -- what stands at a place after a write to one: what was written, or what stood there
  pub at_set : (rows : List (Option X)) (i j : ℕ) (v : Option X) → (at (set rows i v) j ≡ v × (j ≡ i)) ⊎ (at (set rows i v) j ≡ at rows j)
  at_set rows i j v = elim (ℕ_discrete j i) [
    | no other ↦ inr (get_or-set_other rows i j v None other)
    | yes same ↦ elim (dec_lt i (length rows)) [
      | yes l ↦ inl (ap (λ k. at (set rows i v) k) same ∙ get_or-set_same rows i v None l, same)
      | no l ↦ inr (ap (λ xs. at xs j) (set_past rows i v (omega arith)))
    ]
  ]

  -- an empty table has nothing anywhere
  pub empty_at : (n j : ℕ) → at {X = X} (replicate n None) j ≡ None
  empty_at n j = replicate_each n None j

-- a test that is true first at a place, or nowhere
pub position_tells : {X : Type 0} (p : X → Bool) (xs : List X) (d : X)
    → MatchOption (position p xs) ((i : ℕ) → i < length xs → p (get_or xs i d) ≡ false) (λ i. (i < length xs) × (p (get_or xs i d) ≡ true))
position_tells p xs d = by (ltb (position_or_len p xs) (length xs)) refl
  where
    by : (b : Bool) → ltb (position_or_len p xs) (length xs) ≡ b → MatchOption (cond b (Some (position_or_len p xs)) None) ((i : ℕ) → i < length xs → p (get_or xs i d) ≡ false) (λ i. (i < length xs) × (p (get_or xs i d) ≡ true))
    by true e = let lt = (Decides-ltb (position_or_len p xs) (length xs)).0 e in (lt, passes_at_first p xs d lt)
    by false e = λ i lt. fails_before_first p xs i d (let past = not_from_Decides _ (Decides-ltb (position_or_len p xs) (length xs)) e in omega arith)

-- the first place that is free, or no place is
pub free_first : {X : Type 0} (rows : List (Option X)) → MatchOption (position is_none rows) ((i : ℕ) → i < length rows → Full rows i) (λ i. (i < length rows) × (at rows i ≡ None))
free_first {X = X} rows = by (position is_none rows) (position_tells is_none rows None)
  where
    none : (o : Option X) → is_none o ≡ true → o ≡ None
    none None e = refl
    none (Some x) e = grind arith

    some : (o : Option X) → is_none o ≡ false → is_some o ≡ true
    some None e = grind arith
    some (Some x) e = refl

    by : (r : Option ℕ) → MatchOption r ((i : ℕ) → i < length rows → is_none (at rows i) ≡ false) (λ i. (i < length rows) × (is_none (at rows i) ≡ true)) → MatchOption r ((i : ℕ) → i < length rows → Full rows i) (λ i. (i < length rows) × (at rows i ≡ None))
    by None all = λ i lt. some (at rows i) (all i lt)
    by (Some i) here = (here.0, none (at rows i) here.1)

-- the row has this number
abbrev pub numbered_test : {X : Type 0} → (X → ℕ) → ℕ → Option X → Bool
numbered_test number n None = false
numbered_test number n (Some x) = eqb (number x) n

-- the first row with this number, or no row has it
pub numbered_first : {X : Type 0} (number : X → ℕ) (n : ℕ) (rows : List (Option X))
    → MatchOption (position (numbered_test number n) rows) ((i : ℕ) → option_map number (at rows i) ≢ Some n) (λ i. (i < length rows) × (option_map number (at rows i) ≡ Some n))
numbered_first {X = X} number n rows = by (position (numbered_test number n) rows) (position_tells (numbered_test number n) rows None)
  where
    has : (o : Option X) → numbered_test number n o ≡ true → option_map number o ≡ Some n
    has None e = grind arith
    has (Some x) e = ap Some ((Decides-eqb (number x) n).0 e)

    lacks : (o : Option X) → numbered_test number n o ≡ false → option_map number o ≢ Some n
    lacks None e f = no_some f
    lacks (Some x) e f = not_from_Decides (eqb (number x) n) (Decides-eqb (number x) n) e (some_same f)

    by : (r : Option ℕ) → MatchOption r ((i : ℕ) → i < length rows → numbered_test number n (at rows i) ≡ false) (λ i. (i < length rows) × (numbered_test number n (at rows i) ≡ true)) → MatchOption r ((i : ℕ) → option_map number (at rows i) ≢ Some n) (λ i. (i < length rows) × (option_map number (at rows i) ≡ Some n))
    by None all = λ i e. elim (dec_lt i (length rows)) [ yes lt ↦ lacks (at rows i) (all i lt) e | no past ↦ no_some (sym (ap (option_map number) (get_or_past rows i None (omega arith))) ∙ e) ]
    by (Some i) here = (here.0, has (at rows i) here.1)

-- a place whose row has a number is filled
pub full_from_number : {X : Type 0} (number : X → ℕ) (rows : List (Option X)) (i n : ℕ) → option_map number (at rows i) ≡ Some n → Full rows i
full_from_number {X = X} number rows i n e = by (at rows i) refl
  where
    by : (o : Option X) → at rows i ≡ o → Full rows i
    by None f = absurd (no_some (sym (ap (option_map number) f) ∙ e))
    by (Some x) f = ap is_some f

-- what is told of a place by a function of the row is told of the table of those
pub at_map : {X Y : Type 0} (f : X → Y) (rows : List (Option X)) (j : ℕ) → at (map (option_map f) rows) j ≡ option_map f (at rows j)
at_map f [] j = refl
at_map f (row ∷ rows) zero = refl
at_map f (row ∷ rows) (suc j) = at_map f rows j

-- two functions of a row, one after the other
pub at_map_map : {X Y Z : Type 0} (g : Y → Z) (f : X → Y) (rows : List (Option X)) (j : ℕ) → option_map g (at (map (option_map f) rows) j) ≡ option_map (λ x. g (f x)) (at rows j)
at_map_map {X = X} g f rows j = ap (option_map g) (at_map f rows j) ∙ twice (at rows j)
  where
    twice : (o : Option X) → option_map g (option_map f o) ≡ option_map (λ x. g (f x)) o
    twice None = refl
    twice (Some x) = refl

some_mapped : {X Y : Type 0} (f : X → Y) (o : Option X) → is_some (option_map f o) ≡ is_some o
some_mapped f None = refl
some_mapped f (Some x) = refl

pub full_map : {X Y : Type 0} (f : X → Y) (rows : List (Option X)) (j : ℕ) → is_some (at (map (option_map f) rows) j) ≡ is_some (at rows j)
full_map f rows j = ap is_some (at_map f rows j) ∙ some_mapped f (at rows j)

-- ---- the lines of all rows together

module _ {X : Type 0} (lines : X → ℕ) where
  pub union_at : (rows : List (Option X)) (i n : ℕ) (x : X) → at rows i ≡ Some x → Has (lines x) n → Has (union lines rows) n
  union_at [] i n x e h = absurd (no_some e)
  union_at (None ∷ rows) zero n x e h = absurd (no_some e)
  union_at (None ∷ rows) (suc i) n x e h = union_at rows i n x e h
  union_at (Some y ∷ rows) zero n x e h = or_has_left (lines y) (union lines rows) n (subst (λ z. Has (lines z) n) (sym (some_same e)) h)
  union_at (Some y ∷ rows) (suc i) n x e h = or_has_right (lines y) (union lines rows) n (union_at rows i n x e h)

  pub union_has : (rows : List (Option X)) (n : ℕ) → Has (union lines rows) n → (i : ℕ) × (x : X) × (at rows i ≡ Some x) × Has (lines x) n
  union_has [] n h = absurd (none_has n h)
  union_has (None ∷ rows) n h = let r = union_has rows n h in (suc r.0, r.1, r.2, r.3)
  union_has (Some y ∷ rows) n h =
      ⊎_elim (λ k. (zero, y, refl, k)) (λ k. let r = union_has rows n k in (suc r.0, r.1, r.2, r.3)) (or_has (lines y) (union lines rows) n h)

  pub union_none : (k : ℕ) → union lines (replicate k None) ≡ 0
  union_none zero = refl
  union_none (suc k) = union_none k

  -- what a loop over the rows has still to do, one row on
  pub union_more : (rows : List (Option X)) (i : ℕ) (o : Option X) → i < length rows → at rows i ≡ o → union lines (drop i rows) ≡ union lines (o ∷ drop (i + 1) rows)
  union_more rows i o l e = ap (union lines) (drop_more rows i None l) ∙ ap (λ x. union lines (x ∷ drop (i + 1) rows)) e

  -- a loop that gathers the lines of the rows, one row on
  pub gather_more : (rows : List (Option X)) (i all : ℕ) (x : X) → i < length rows → at rows i ≡ Some x → bit_or (bit_or all (lines x)) (union lines (drop (i + 1) rows)) ≡ bit_or all (union lines (drop i rows))
  gather_more rows i all x l e = or_group all (lines x) (union lines (drop (i + 1) rows)) ∙ ap (bit_or all) (sym (union_more rows i (Some x) l e))

  -- a write adds at most the lines of the row written
  pub union_set : (rows : List (Option X)) (i : ℕ) (x : X) → Within (union lines (set rows i (Some x))) (bit_or (union lines rows) (lines x))
  union_set rows i x n h =
      let r = union_has (set rows i (Some x)) n h in
      ⊎_elim
      (λ new. or_has_right (union lines rows) (lines x) n (let same : r.1 ≡ x = some_same (sym r.2 ∙ new.0) in subst (λ z. Has (lines z) n) same r.3))
      (λ old. or_has_left (union lines rows) (lines x) n (union_at rows r.0 n r.1 (sym old ∙ r.2) r.3))
      (at_set rows i r.0 (Some x))

  pub union_unset : (rows : List (Option X)) (i : ℕ) → Within (union lines (set rows i None)) (union lines rows)
  union_unset rows i n h =
      let r = union_has (set rows i None) n h in
      ⊎_elim (λ new. absurd (no_some (sym new.0 ∙ r.2))) (λ old. union_at rows r.0 n r.1 (sym old ∙ r.2) r.3) (at_set rows i r.0 None)

-- the row has the line, and it does not
abbrev pub RowHas : {X : Type 0} → (X → ℕ) → ℕ → Option X → Type 0
RowHas {X = X} lines line row = (x : X) × (row ≡ Some x) × Has (lines x) line

abbrev pub RowLacks : {X : Type 0} → (X → ℕ) → ℕ → Option X → Type 0
RowLacks {X = X} lines line row = (x : X) → row ≡ Some x → Has (lines x) line → ⊥

-- some row has the line, or none has it
pub any_row_has : {X : Type 0} (lines : X → ℕ) (line : ℕ) (rows : List (Option X)) (r : Bool)
    → MatchBool r ((k : ℕ) × (k < length rows) × HoldsAt (RowHas lines line) rows k) (AllWithin (RowLacks lines line) rows 0 (length rows)) → Decides r (Has (union lines rows) line)
any_row_has lines line rows true found = ((λ _. let row = found.2 None in union_at lines rows found.0 line row.0 row.1 row.2), λ _. refl)
any_row_has lines line rows false none =
    ((λ e. grind arith), λ h. let row = union_has lines rows line h in absurd (none row.0 None (omega arith) (full_below rows row.0 (ap is_some row.2)) row.1 row.2 row.3))
