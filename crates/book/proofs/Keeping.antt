-- What every book keeps, over a write to one of its tables.
use Rattle.std.proofs.Common.{◌≡◌, ℕ, zero, suc, ◌+◌, ◌<◌, ◌≤◌, Bool, true, false, cond, eqb, ◌≢◌, ◌⊎◌, List, [], ◌∷◌, map, length, set, replicate, is_some, Some, None, Option, sym, refl, ap, ◌∙◌, subst, inl, inr, ⊎_elim, arith}
use lib.Bits.{bit_or}
use lib.Count.{ones}
use Rattle.std.proofs.lemmas.List.{map-set}
use Rattle.std.proofs.lemmas.Bool.Decides.{Decides-eqb}
use Rattle.std.specs.Option.{option_map}
use Rattle.sets.specs.Sets.{Has}
use Rattle.sets.proofs.Lines.{or_has, or_has_left, or_has_right, ones_within}
use Rattle.book.specs.Rows.{at, Full, Vacant, union, lines_named, unless_lines}
use Rattle.book.specs.Kept.{Distinct, Given, OnLines, Worded, FewUnless, InRange, most_unless}
use Rattle.book.specs.Contents.{Contents, Statement, Held}
use Rattle.book.specs.Calls.{IsHeld}
use Rattle.book.specs.View.{said, out_at, seen}
use Rattle.book.specs.declared.rows.LineRow.{LineRow}
use Rattle.book.specs.declared.rows.Rule.{Rule}
use Rattle.book.specs.declared.rows.HoldRow.{HoldRow}
use Rattle.book.specs.declared.rows.Tables.{Tables}
use Rattle.book.specs.declared.book.Book.{Book}
use Rattle.sets.proofs.Rows.{some_same, no_some}
use Rattle.book.proofs.Tables.{not_full, at_set, empty_at, full_map, union_has, union_set, union_unset}

module _ {X : Type 0} where
  -- a place that is not empty as it is seen through a function of its row is filled
  pub full_unless_vacant : {Y : Type 0} (f : X → Y) (rows : List (Option X)) (n : ℕ) → (Vacant (map (option_map f) rows) n → ⊥) → Full rows n
  full_unless_vacant f rows n filled = by (at rows n) refl
    where
      by : (o : Option X) → at rows n ≡ o → Full rows n
      by None e = absurd (filled (λ full. not_full rows n e (sym (full_map f rows n) ∙ full)))
      by (Some x) e = ap is_some e

  -- ---- what holds of each row

  pub each_none : (P : X → Type 0) (n i : ℕ) (a : X) → at (replicate n None) i ≡ Some a → P a
  each_none P n i a e = absurd (no_some (sym (empty_at n i) ∙ e))

  pub each_written : (P : X → Type 0) (rows : List (Option X)) (k : ℕ) (x : X) → ((i : ℕ) (a : X) → at rows i ≡ Some a → P a) → P x → (i : ℕ) (a : X) → at (set rows k (Some x)) i ≡ Some a → P a
  each_written P rows k x each here i a e =
      ⊎_elim (λ new. let same : x ≡ a = some_same (sym new.0 ∙ e) in subst P same here) (λ old. each i a (sym old ∙ e)) (at_set rows k i (Some x))

  pub each_cleared : (P : X → Type 0) (rows : List (Option X)) (k : ℕ) → ((i : ℕ) (a : X) → at rows i ≡ Some a → P a) → (i : ℕ) (a : X) → at (set rows k None) i ≡ Some a → P a
  each_cleared P rows k each i a e = ⊎_elim (λ new. absurd (no_some (sym new.0 ∙ e))) (λ old. each i a (sym old ∙ e)) (at_set rows k i None)

  -- ---- filled places

  pub full_written : (rows : List (Option X)) (k n : ℕ) (x : X) → Full rows n → Full (set rows k (Some x)) n
  full_written rows k n x full = ⊎_elim (λ new. ap is_some new.0) (λ old. ap is_some old ∙ full) (at_set rows k n (Some x))

  pub full_cleared : (rows : List (Option X)) (k n : ℕ) → n ≢ k → Full rows n → Full (set rows k None) n
  full_cleared rows k n other full = ⊎_elim (λ new. absurd (other new.1)) (λ old. ap is_some old ∙ full) (at_set rows k n None)

  -- ---- numbers

  module _ (number : X → ℕ) where
    number_of : Option X → Option ℕ
    number_of o = option_map number o

    pub distinct_none : (n : ℕ) → Distinct number (replicate n None)
    distinct_none n i j h = absurd (not_full (replicate n None) i (empty_at n i) h.0)

    -- a new row has a number that was not given yet
    fresh : (rows : List (Option X)) (next i : ℕ) → Given number rows next → option_map number (at rows i) ≡ Some next → ⊥
    fresh rows next i given e = by (at rows i) refl e
      where
        by : (o : Option X) → at rows i ≡ o → option_map number o ≡ Some next → ⊥
        by None at_i f = no_some f
        by (Some y) at_i f = let same : number y ≡ next = some_same f in omega (arith, (given i y at_i).1)

    pub distinct_written : (rows : List (Option X)) (k next : ℕ) (x : X) → Distinct number rows → Given number rows next → number x ≡ next → Distinct number (set rows k (Some x))
    distinct_written rows k next x distinct given new i j h = by (at_set rows k i (Some x)) (at_set rows k j (Some x))
      where
        is_next : option_map number (Some x) ≡ Some next
        is_next = ap Some new

        by : ((at (set rows k (Some x)) i ≡ Some x) × (i ≡ k)) ⊎ (at (set rows k (Some x)) i ≡ at rows i) → ((at (set rows k (Some x)) j ≡ Some x) × (j ≡ k)) ⊎ (at (set rows k (Some x)) j ≡ at rows j) → i ≡ j
        by (inl a) (inl b) = a.1 ∙ sym b.1
        by (inl a) (inr b) = absurd (fresh rows next j given (sym (ap (option_map number) b) ∙ sym h.1 ∙ ap (option_map number) a.0 ∙ is_next))
        by (inr a) (inl b) = absurd (fresh rows next i given (sym (ap (option_map number) a) ∙ h.1 ∙ ap (option_map number) b.0 ∙ is_next))
        by (inr a) (inr b) = distinct i j (sym (ap is_some a) ∙ h.0, sym (ap (option_map number) a) ∙ h.1 ∙ ap (option_map number) b)

    -- numbers from 1 on stay below the next, one higher
    pub given_written : (rows : List (Option X)) (k next : ℕ) (x : X) → Given number rows next → number x ≡ next → 1 ≤ next → Given number (set rows k (Some x)) (next + 1)
    given_written rows k next x given new some =
        each_written (λ a. (1 ≤ number a) × (number a < next + 1)) rows k x (λ i a e. let g = given i a e in omega arith) (omega arith)

    pub distinct_cleared : (rows : List (Option X)) (k : ℕ) → Distinct number rows → Distinct number (set rows k None)
    distinct_cleared rows k distinct i j h = by (at_set rows k i None) (at_set rows k j None)
      where
        gone : at (set rows k None) i ≡ None → ⊥
        gone e = not_full (set rows k None) i e h.0

        none_number : (o : Option X) → is_some o ≡ true → option_map number o ≡ None → ⊥
        none_number None f e = not_full {X = X} [] 0 refl f
        none_number (Some y) f e = no_some (sym e)

        by : ((at (set rows k None) i ≡ None) × (i ≡ k)) ⊎ (at (set rows k None) i ≡ at rows i) → ((at (set rows k None) j ≡ None) × (j ≡ k)) ⊎ (at (set rows k None) j ≡ at rows j) → i ≡ j
        by (inl a) b = absurd (gone a.0)
        by (inr a) (inl b) = absurd (none_number (at (set rows k None) i) h.0 (h.1 ∙ ap (option_map number) b.0))
        by (inr a) (inr b) = distinct i j (sym (ap is_some a) ∙ h.0, sym (ap (option_map number) a) ∙ h.1 ∙ ap (option_map number) b)

  -- ---- lines of rows

  module _ (lines : X → ℕ) where
    pub on_lines_written : (rows : List (Option X)) (filled : List (Option LineRow)) (k : ℕ) (x : X) → OnLines lines rows filled → ((n : ℕ) → Has (lines x) n → Full filled n) → OnLines lines (set rows k (Some x)) filled
    on_lines_written rows filled k x on here n h = ⊎_elim (on n) (here n) (or_has (union lines rows) (lines x) n (union_set lines rows k x n h))

    pub on_lines_cleared : (rows : List (Option X)) (filled : List (Option LineRow)) (k : ℕ) → OnLines lines rows filled → OnLines lines (set rows k None) filled
    on_lines_cleared rows filled k on n h = on n (union_unset lines rows k n h)

-- ---- what every book keeps, table by table

pub record LinesKept (lines : List (Option LineRow)) (next : ℕ) : Type 0 where
  pub places : length lines ≡ 64
  pub next_in_range : InRange next
  pub distinct : Distinct (λ a. a.number) lines
  pub given : Given (λ a. a.number) lines next
  pub worded : Worded lines

pub record RulesKept (rules : List (Option Rule)) (lines : List (Option LineRow)) : Type 0 where
  pub places : length rules ≡ 40
  pub on_lines : OnLines lines_named rules lines
  pub few_unless : FewUnless rules

pub record HoldsKept (holds : List (Option HoldRow)) (next : ℕ) (lines : List (Option LineRow)) : Type 0 where
  pub places : length holds ≡ 16
  pub next_in_range : InRange next
  pub distinct : Distinct (λ h. h.number) holds
  pub given : Given (λ h. h.number) holds next
  pub on_lines : OnLines (λ h. h.lines) holds lines

pub lines_kept : (b : Book) → LinesKept b.tables.lines b.tables.next
lines_kept b = record { places = b.line_places; next_in_range = b.next_in_range; distinct = b.numbers_distinct; given = b.numbers_given; worded = b.worded }

pub rules_kept : (b : Book) → RulesKept b.tables.rules b.tables.lines
rules_kept b = record { places = b.rule_places; on_lines = b.rules_on_lines; few_unless = b.few_unless }

pub holds_kept : (b : Book) → HoldsKept b.tables.holds b.tables.next_hold b.tables.lines
holds_kept b = record { places = b.hold_places; next_in_range = b.next_hold_in_range; distinct = b.holds_distinct; given = b.holds_given; on_lines = b.holds_on_lines }

-- what every book keeps of its tables
abbrev pub AllKept : List (Option LineRow) → List (Option Rule) → List (Option HoldRow) → ℕ → ℕ → Type 0
AllKept lines rules holds next next_hold = record {
  line_places : length lines ≡ 64;
  rule_places : length rules ≡ 40;
  hold_places : length holds ≡ 16;
  next_in_range : InRange next;
  next_hold_in_range : InRange next_hold;
  numbers_distinct : Distinct (λ a. a.number) lines;
  numbers_given : Given (λ a. a.number) lines next;
  worded : Worded lines;
  rules_on_lines : OnLines lines_named rules lines;
  few_unless : FewUnless rules;
  holds_on_lines : OnLines (λ h. h.lines) holds lines;
  holds_distinct : Distinct (λ h. h.number) holds;
  holds_given : Given (λ h. h.number) holds next_hold;
}

-- the tables are those of a book
pub all_kept : (lines : List (Option LineRow)) (rules : List (Option Rule)) (holds : List (Option HoldRow)) (next next_hold : ℕ) → LinesKept lines next → RulesKept rules lines → HoldsKept holds next_hold lines
    → AllKept lines rules holds next next_hold
all_kept lines rules holds next next_hold l r h = record {
  line_places = l.places;
  rule_places = r.places;
  hold_places = h.places;
  next_in_range = l.next_in_range;
  next_hold_in_range = h.next_in_range;
  numbers_distinct = l.distinct;
  numbers_given = l.given;
  worded = l.worded;
  rules_on_lines = r.on_lines;
  few_unless = r.few_unless;
  holds_on_lines = h.on_lines;
  holds_distinct = h.distinct;
  holds_given = h.given;
}

-- ---- other lines below the rules and the holds

module _ (rows filled : List (Option LineRow)) where
  pub rules_relined : (rules : List (Option Rule)) → RulesKept rules rows → ((n : ℕ) → Has (union lines_named rules) n → Full rows n → Full filled n) → RulesKept rules filled
  rules_relined rules kept full = record { places = kept.places; on_lines = λ n h. full n h (kept.on_lines n h); few_unless = kept.few_unless }

  pub holds_relined : (holds : List (Option HoldRow)) (next : ℕ) → HoldsKept holds next rows → ((n : ℕ) → Has (union (λ h. h.lines) holds) n → Full rows n → Full filled n) → HoldsKept holds next filled
  holds_relined holds next kept full = record { places = kept.places; next_in_range = kept.next_in_range; distinct = kept.distinct; given = kept.given; on_lines = λ n h. full n h (kept.on_lines n h) }

-- ---- unless-sets

pub few_written : (rules : List (Option Rule)) (k : ℕ) (r : Rule) → ones (bit_or (unless_lines rules) r.unless) ≤ most_unless → FewUnless (set rules k (Some r))
few_written rules k r few = let less = ones_within _ _ (union_set (λ x. x.unless) rules k r) in omega arith

pub few_cleared : (rules : List (Option Rule)) (k : ℕ) → FewUnless rules → FewUnless (set rules k None)
few_cleared rules k few = let less = ones_within _ _ (union_unset (λ x. x.unless) rules k) in omega arith

-- ---- holds that are out

abbrev hold_lines : HoldRow → ℕ
hold_lines h = h.lines

-- a hold that is seen stands in the table
seen_hold : (rows : List (Option HoldRow)) (number line : ℕ) (h : Held) → out_at rows number ≡ Some h → Has h.lines line → Has (union hold_lines rows) line
seen_hold [] number line h e has = absurd (no_some e)
seen_hold (None ∷ rows) number line h e has = seen_hold rows number line h e has
seen_hold (Some r ∷ rows) number line h e has = by (eqb r.number number) (seen_hold rows number line h) e
  where
    by : (b : Bool) → (out_at rows number ≡ Some h → Has h.lines line → Has (union hold_lines rows) line) → cond b (Some (record { lines = r.lines })) (out_at rows number) ≡ Some h → Has (bit_or r.lines (union hold_lines rows)) line
    by true rest f =
        let same : r.lines ≡ h.lines = ap (λ k. k.lines) (some_same f) in
        or_has_left r.lines (union hold_lines rows) line (subst (λ s. Has s line) (sym same) has)
    by false rest f = or_has_right r.lines (union hold_lines rows) line (rest f has)

-- a hold in the table is seen by its number
pub hold_seen : (rows : List (Option HoldRow)) (i : ℕ) (h : HoldRow) → Distinct (λ k. k.number) rows → at rows i ≡ Some h → out_at rows h.number ≡ Some (record { lines = h.lines })
hold_seen [] i h distinct e = absurd (no_some e)
hold_seen (None ∷ rows) zero h distinct e = absurd (no_some e)
hold_seen (None ∷ rows) (suc i) h distinct e = hold_seen rows i h (λ a b k. let s = distinct (suc a) (suc b) k in omega arith) e
hold_seen (Some r ∷ rows) zero h distinct e =
    let same : r ≡ h = some_same e in
    let yes-number : eqb r.number h.number ≡ true = (Decides-eqb r.number h.number).1 (ap (λ x. x.number) same) in
    ap (λ b. cond b (Some (record { lines = r.lines })) (out_at rows h.number)) yes-number ∙ ap (λ x. Some (record { lines = x.lines })) same
hold_seen (Some r ∷ rows) (suc i) h distinct e = by (hold_seen rows i h (λ a b k. let s = distinct (suc a) (suc b) k in omega arith) e) (eqb r.number h.number) refl
  where
    by : out_at rows h.number ≡ Some (record { lines = h.lines }) → (b : Bool) → eqb r.number h.number ≡ b → cond b (Some (record { lines = r.lines })) (out_at rows h.number) ≡ Some (record { lines = h.lines })
    by rest true f = absurd (omega (arith, distinct 0 (suc i) (refl, ap Some ((Decides-eqb r.number h.number).0 f) ∙ sym (ap (option_map (λ k. k.number)) e))))
    by rest false f = rest

pub held_from : (t : Tables) (line : ℕ) → Distinct (λ h. h.number) t.holds → Has (union hold_lines t.holds) line → IsHeld (seen t) line
held_from t line distinct has =
    let r = union_has hold_lines t.holds line has in
    (r.1.number, record { lines = r.1.lines }, hold_seen t.holds r.0 r.1 distinct r.2, r.3)

pub held_has : (t : Tables) (line : ℕ) → IsHeld (seen t) line → Has (union hold_lines t.holds) line
held_has t line held = seen_hold t.holds held.0 line held.1 held.2 held.3

-- ---- how a changed line is seen

-- the rest of what is seen stays: other lines, and another next number
abbrev relined : Tables → ℕ → List (Option Statement) → Contents
relined t next lines = record { lines = lines; rules = t.rules; holds = λ n. out_at t.holds n; next = next; next_hold = t.next_hold }

pub seen_written : (t : Tables) (k next : ℕ) (row : LineRow) (words : List ℕ) → row.words ≡ words → (relined t next (map (option_map said) (set t.lines k (Some row))) ≡ relined t next (set (map (option_map said) t.lines) k (Some (record { number = row.number; words = words }))))
seen_written t k next row words e =
    ap (relined t next) (map-set (option_map said) t.lines k (Some row) ∙ ap (λ ws. set (map (option_map said) t.lines) k (Some (record { number = row.number; words = ws }))) e)

pub seen_struck : (t : Tables) (k : ℕ) → (relined t t.next (map (option_map said) (set t.lines k None)) ≡ relined t t.next (set (map (option_map said) t.lines) k None))
seen_struck t k = ap (relined t t.next) (map-set (option_map said) t.lines k None)
