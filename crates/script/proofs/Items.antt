-- The items of a set's text, read one after the other.
use Rattle.std.proofs.Common.{Bor, Option, None, Some, ◌≡◌, ℕ, suc, zero, ◌+◌, ◌^◌, ◌<◌, ◌≤◌, Bool, true, false, cond, eqb, List, [], ◌∷◌, length, get_or, drop, decimal, sym, refl, ap, ◌∙◌, subst, arith}
use Rattle.std.specs.Fn.{CalledAt, Mut}
use Rattle.std.specs.Iterator.{Yields}
use Rattle.std.specs.List.{join_with_byte, onto_first, slice_split}
use Rattle.std.specs.Slice.Iter.{split_callee, split_done, split_rest, split_steps}
use Rattle.std.specs.declared.slice.Split.{Split}
use Rattle.std.proofs.lemmas.Iterator.{YieldsList}
use Rattle.std.proofs.lemmas.Iterator.Consumers.{YieldsList-turn, YieldsList-end}
use Rattle.std.proofs.lemmas.Iterator.Splits.{YieldsList-from_slice_split}
use Rattle.std.proofs.lemmas.Bool.Decides.{nat_tests}
use Rattle.std.proofs.lemmas.List.{drop_all, drop_more}
use Rattle.std.proofs.lemmas.List.Splits.{join_with_byte-slice_split, length-slice_split}
use Rattle.sets.specs.Sets.{IsLines}
use Rattle.script.specs.Reading.{Lacks, lines_text, set_text}
use Rattle.script.proofs.Parsing.{lacks_cons, lacks_none}
use Rattle.script.proofs.SetReads.{Added, Rising, SoFar, all_read, first_left, last_left, nothing_read, one_more, rising_le}

abbrev pub is_comma : ℕ → Bool
is_comma b = eqb b 44

abbrev pub AllLack : List (List ℕ) → Type 0
AllLack [] = Unit {0}
AllLack (item ∷ more) = Lacks 44 item × AllLack more

onto_lack : (b : ℕ) → (b ≡ 44 → ⊥) → (parts : List (List ℕ)) → AllLack parts → AllLack (onto_first b parts)
onto_lack b other [] h = (lacks_cons 44 b [] other (lacks_none 44), tt)
onto_lack b other (part ∷ parts) h = (lacks_cons 44 b part other h.0, h.1)

pub items_lack : (bs : List ℕ) → AllLack (slice_split is_comma bs)
items_lack [] = (lacks_none 44, tt)
items_lack (b ∷ bs) = by (is_comma b) refl (items_lack bs)
  where
    by : (t : Bool) → is_comma b ≡ t → AllLack (slice_split is_comma bs) → AllLack (cond t ([] ∷ slice_split is_comma bs) (onto_first b (slice_split is_comma bs)))
    by true e h = (lacks_none 44, h)
    by false e h = onto_lack b (λ q. grind (arith, nat_tests)) (slice_split is_comma bs) h

lack_drop : (n : ℕ) (parts : List (List ℕ)) → AllLack parts → AllLack (drop n parts)
lack_drop zero parts h = h
lack_drop (suc n) [] h = tt
lack_drop (suc n) (part ∷ parts) h = lack_drop n parts h.1

-- What was read of a field, before the items that are left.
abbrev pub ReadSoFar : List ℕ → ℕ → ℕ → List (List ℕ) → Type 0
ReadSoFar field lines least [] = IsLines lines × (field ≡ set_text lines)
ReadSoFar field lines least (item ∷ more) = SoFar field lines least (join_with_byte 44 (item ∷ more))

pub read_nothing : (field : List ℕ) → ReadSoFar field 0 0 (slice_split is_comma field)
read_nothing field =
    go (slice_split is_comma field) (join_with_byte-slice_split 44 field) some
  where
    some : 0 < length (slice_split is_comma field)
    some = omega (arith, length-slice_split is_comma field)

    go : (parts : List (List ℕ)) → join_with_byte 44 parts ≡ field → 0 < length parts → ReadSoFar field 0 0 parts
    go [] e l = absurd (omega arith)
    go (item ∷ more) e l = subst (SoFar field 0 0) (sym e) (nothing_read field)

-- the item that is next
pub next_item : (field : List ℕ) (n : ℕ) (item : List ℕ) → (n < length (slice_split is_comma field)) × (item ≡ get_or (slice_split is_comma field) n item) → drop n (slice_split is_comma field) ≡ item ∷ drop (n + 1) (slice_split is_comma field)
next_item field n item at =
    let parts = slice_split is_comma field in
    drop_more parts n item at.0 ∙ ap (λ x. x ∷ drop (n + 1) parts) (sym at.1)

read_one : (field : List ℕ) (lines least : ℕ) (item : List ℕ) (more : List (List ℕ)) (line set : ℕ) → ReadSoFar field lines least (item ∷ more) → AllLack (item ∷ more) → least ≤ line → line < 64 → item ≡ decimal line → Added lines line set → set < 2 ^ 64 → ReadSoFar field set (line + 1) more
read_one field lines least item [] line set p lack from below is a fits =
    (omega (arith, fits), all_read field lines least item line set p from below is a)
read_one field lines least item (next ∷ rest) line set p lack from below is a fits =
    one_more field lines least _ item (join_with_byte 44 (next ∷ rest)) line set p
    record { whole = refl; clear = lack.0 } from below is a fits

read_none : (field : List ℕ) (lines least : ℕ) (item : List ℕ) (more : List (List ℕ)) → ReadSoFar field lines least (item ∷ more) → AllLack (item ∷ more) → ((n : ℕ) → least ≤ n → n < 64 → item ≡ decimal n → ⊥) → (n : ℕ) (ns : List ℕ) → Rising 0 (n ∷ ns) 64 → field ≡ lines_text (n ∷ ns) → ⊥
read_none field lines least item [] p lack bad n ns r e =
    let l = last_left field lines least item p lack.0 n ns r e in bad l.0 l.1 l.2 l.3
read_none field lines least item (next ∷ rest) p lack bad n ns r e =
    let f = first_left field lines least _ item (join_with_byte 44 (next ∷ rest)) p record { whole = refl; clear = lack.0 } n ns r e in
    let low = rising_le (f.0 + 1) (f.1 ∷ f.2) 64 f.3.1 in
    bad f.0 f.3.0 (omega arith) f.4

-- the same of the items of a field, of which n are read
module _ (field : List ℕ) (lines least n : ℕ) (item : List ℕ) (p : ReadSoFar field lines least (drop n (slice_split is_comma field))) (at : (n < length (slice_split is_comma field)) × (item ≡ get_or (slice_split is_comma field) n item)) where
  here : ReadSoFar field lines least (item ∷ drop (n + 1) (slice_split is_comma field))
  here = subst (ReadSoFar field lines least) (next_item field n item at) p

  lack : AllLack (item ∷ drop (n + 1) (slice_split is_comma field))
  lack = subst AllLack (next_item field n item at) (lack_drop n (slice_split is_comma field) (items_lack field))

  pub item_read : (line set : ℕ) → least ≤ line → line < 64 → item ≡ decimal line → Added lines line set → set < 2 ^ 64 → ReadSoFar field set (line + 1) (drop (n + 1) (slice_split is_comma field))
  item_read line set = read_one field lines least item (drop (n + 1) (slice_split is_comma field)) line set here lack

  pub item_bad : ((n : ℕ) → least ≤ n → n < 64 → item ≡ decimal n → ⊥) → (n : ℕ) (ns : List ℕ) → Rising 0 (n ∷ ns) 64 → field ≡ lines_text (n ∷ ns) → ⊥
  item_bad = read_none field lines least item (drop (n + 1) (slice_split is_comma field)) here lack

-- what a loop over the items is told of them
module _ {F : Type 0} {g : Mut F (Bor ℕ × Unit {0}) Bool} (s t u : Split ℕ F) (field : List ℕ) (xs : List (Bor (List ℕ))) (r : Option (Bor (List ℕ))) (yielded : Yields (split_steps g) s xs t) (step : split_steps g t r u) (rest : split_rest s ≡ field) (done : split_done s ≡ false) (tests : (x : ℕ) (b : Bool) (q : F) → CalledAt g (split_callee s) x b q → (q ≡ split_callee s) × (b ≡ is_comma x)) where
  yields : YieldsList (split_steps g) (λ x. x.now) s (slice_split is_comma field)
  yields = YieldsList-from_slice_split g is_comma field rest done refl tests

  pub item_next : (x : Bor (List ℕ)) → r ≡ Some x → (length xs < length (slice_split is_comma field)) × (x.now ≡ get_or (slice_split is_comma field) (length xs) x.now)
  item_next x is = YieldsList-turn yields xs t yielded r u x is step

  pub items_end : r ≡ None → drop (length xs) (slice_split is_comma field) ≡ []
  items_end is =
      let all = YieldsList-end yields xs t yielded r u is step in
      drop_all (length xs) (slice_split is_comma field) (omega (arith, all.1))
