-- The entries of a set of lines, gathered line by line.
use Rattle.std.proofs.Common.{◌≡◌, ℕ, ◌+◌, ◌<◌, ◌≤◌, ◌⊎◌, List, [], ◌∷◌, ◌++◌, length, Some, sym, refl, ap, ◌∙◌, subst, inl, inr, ⊎_elim, arith}
use native.Mathlib.Decide.{ℕ_discrete}
use Rattle.sets.specs.Sets.{Has, IsLines}
use Rattle.sets.proofs.Lines.{has_below}
use Rattle.sets.proofs.Rows.{some_same}
use Rattle.record.specs.Record.{Good, RisingFrom}
use Rattle.record.specs.declared.entries.Entry.{Entry}
use Rattle.record.proofs.Rises.{after, after_more, after_counts, good_more}
use Rattle.book.specs.Contents.{Contents}
use Rattle.book.specs.Calls.{number_at}
use Rattle.book.specs.Saved.{Lists, EntriesOf}

-- one entry more at the end
pub lists_old : (es : List Entry) (e : Entry) (line number : ℕ) → Lists es line number → Lists (es ++ (e ∷ [])) line number
lists_old [] e line number h = absurd h
lists_old (x ∷ es) e line number (inl h) = inl h
lists_old (x ∷ es) e line number (inr h) = inr (lists_old es e line number h)

pub lists_new : (es : List Entry) (e : Entry) (line number : ℕ) → e.line ≡ line → e.number ≡ number → Lists (es ++ (e ∷ [])) line number
lists_new [] e line number l n = inl (l, n)
lists_new (x ∷ es) e line number l n = inr (lists_new es e line number l n)

pub lists_which : (es : List Entry) (e : Entry) (line number : ℕ) → Lists (es ++ (e ∷ [])) line number → Lists es line number ⊎ ((e.line ≡ line) × (e.number ≡ number))
lists_which [] e line number (inl h) = inr h
lists_which [] e line number (inr h) = absurd h
lists_which (x ∷ es) e line number (inl h) = inl (inl h)
lists_which (x ∷ es) e line number (inr h) = ⊎_elim (λ k. inl (inr k)) inr (lists_which es e line number h)

-- the entries of the lines below i
pub record Gathered (c : Contents) (lines i : ℕ) (es : List Entry) : Type 0 where
  pub good : Good c.next es
  pub past : after 0 es ≤ i
  pub each : (line number : ℕ) → Lists es line number → Has lines line × (number_at c line ≡ Some number)
  pub every : (line number : ℕ) → line < i → Has lines line → number_at c line ≡ Some number → Lists es line number

module _ (c : Contents) (lines : ℕ) where
  pub gathered_none : Gathered c lines 0 []
  gathered_none = record {
    good = record { rising = tt; given = tt };
    past = omega arith;
    each = λ line number h. absurd h;
    every = λ line number lt. absurd (omega arith);
  }

  module _ (i : ℕ) (es : List Entry) (so : Gathered c lines i es) where
    -- there is room for one more
    pub gathered_few : i < 64 → length es < 64
    gathered_few lt = omega (arith, after_counts 0 es so.good.rising, so.past)

    -- line i is in the set, and has this number
    pub gathered_more : (e : Entry) → i < 64 → e.line ≡ i → Has lines i → number_at c i ≡ Some e.number → (1 ≤ e.number) × (e.number < c.next) → Gathered c lines (i + 1) (es ++ (e ∷ []))
    gathered_more e lt here has numbered given = record {
      good = good_more c.next es e so.good (omega (arith, so.past), omega arith, given);
      past = omega (arith, after_more 0 es e);
      each = λ line number h. ⊎_elim (so.each line number) (λ k. each line number k) (lists_which es e line number h);
      every = λ line number below in-set n. elim (ℕ_discrete line i) [
        | yes same ↦ lists_new es e line number (here ∙ sym same) (some_same (sym numbered ∙ sym (ap (number_at c) same) ∙ n))
        | no other ↦ lists_old es e line number (so.every line number (omega arith) in-set n)
      ];
    }
      where
        each : (line number : ℕ) → (e.line ≡ line) × (e.number ≡ number) → Has lines line × (number_at c line ≡ Some number)
        each line number k =
            let at : i ≡ line = sym here ∙ k.0 in
            (subst (Has lines) at has, ap (number_at c) (sym at) ∙ numbered ∙ ap Some k.1)

    -- line i is not in the set, or is empty
    pub gathered_same : (Has lines i → (number : ℕ) → number_at c i ≡ Some number → ⊥) → Gathered c lines (i + 1) es
    gathered_same out = record {
      good = so.good;
      past = omega (arith, so.past);
      each = so.each;
      every = λ line number below in-set n. elim (ℕ_discrete line i) [
        | yes same ↦ absurd (out (subst (Has lines) same in-set) number (sym (ap (number_at c) same) ∙ n))
        | no other ↦ so.every line number (omega arith) in-set n
      ];
    }

  pub gathered_all : (i : ℕ) (es : List Entry) → IsLines lines → 64 ≤ i → Gathered c lines i es → EntriesOf c lines es
  gathered_all i es l end so = record {
    rising = so.good.rising;
    each = so.each;
    every = λ line number in-set n. so.every line number (omega (arith, has_below lines line l in-set)) in-set n;
  }

-- ---- a set of lines has one list of entries

-- an entry of a list that rises has a line from the start on
lists_from : (least : ℕ) (es : List Entry) (line number : ℕ) → RisingFrom least es → Lists es line number → least ≤ line
lists_from least [] line number r h = absurd h
lists_from least (e ∷ es) line number r (inl h) = let low = r.0 in let same = h.0 in omega arith
lists_from least (e ∷ es) line number r (inr h) = let low = r.0 in let rest = lists_from (e.line + 1) es line number r.2 h in omega arith

abbrev SameLists : List Entry → List Entry → Type 0
SameLists es fs = (line number : ℕ) → (Lists es line number → Lists fs line number) × (Lists fs line number → Lists es line number)

-- the first entries are one
heads_same : (a b : ℕ) (e f : Entry) (es fs : List Entry) → RisingFrom a (e ∷ es) → RisingFrom b (f ∷ fs) → SameLists (e ∷ es) (f ∷ fs) → (e.line ≡ f.line) × (e.number ≡ f.number)
heads_same a b e f es fs r q same = by ((same e.line e.number).0 (inl (refl, refl))) ((same f.line f.number).1 (inl (refl, refl)))
  where
    by : Lists (f ∷ fs) e.line e.number → Lists (e ∷ es) f.line f.number → (e.line ≡ f.line) × (e.number ≡ f.number)
    by (inl h) k = (sym h.0, sym h.1)
    by (inr h) (inl k) = k
    by (inr h) (inr k) =
        let up = lists_from (f.line + 1) fs e.line e.number q.2 h in
        let down = lists_from (e.line + 1) es f.line f.number r.2 k in
        absurd (omega arith)

-- what the rests list is listed by both, since their lines lie above the first
tail_lists : (a b : ℕ) (e f : Entry) (es fs : List Entry) → RisingFrom a (e ∷ es) → e.line ≡ f.line → SameLists (e ∷ es) (f ∷ fs) → (line number : ℕ) → Lists es line number → Lists fs line number
tail_lists a b e f es fs r heads same line number h = by ((same line number).0 (inr h))
  where
    by : Lists (f ∷ fs) line number → Lists fs line number
    by (inl k) = let up = lists_from (e.line + 1) es line number r.2 h in let at = k.0 in absurd (omega arith)
    by (inr k) = k

pub entries_same : (a b : ℕ) (es fs : List Entry) → RisingFrom a es → RisingFrom b fs → SameLists es fs → es ≡ fs
entries_same a b [] [] r q same = refl
entries_same a b [] (f ∷ fs) r q same = absurd ((same f.line f.number).1 (inl (refl, refl)))
entries_same a b (e ∷ es) [] r q same = absurd ((same e.line e.number).0 (inl (refl, refl)))
entries_same a b (e ∷ es) (f ∷ fs) r q same =
    let heads = heads_same a b e f es fs r q same in
    let back : SameLists (f ∷ fs) (e ∷ es) = λ line number. ((same line number).1, (same line number).0) in
    let rest = entries_same (e.line + 1) (f.line + 1) es fs r.2 q.2 (λ line number. (tail_lists a b e f es fs r heads.0 same line number, tail_lists b a f e fs es q (sym heads.0) back line number)) in
    let line_same = heads.0 in
    let number_same = heads.1 in
    let make : ℕ → ℕ → Entry = λ line number. record { line = line; number = number } in
    ap (λ n. make n e.number ∷ es) line_same ∙ ap (λ n. make f.line n ∷ es) number_same ∙ ap (λ xs. f ∷ xs) rest

pub entries_one : (c : Contents) (lines : ℕ) (es fs : List Entry) → EntriesOf c lines es → EntriesOf c lines fs → es ≡ fs
entries_one c lines es fs a b =
    entries_same 0 0 es fs a.rising b.rising
    (λ line number. (λ h. let x = a.each line number h in b.every line number x.0 x.1, λ h. let x = b.each line number h in a.every line number x.0 x.1))
