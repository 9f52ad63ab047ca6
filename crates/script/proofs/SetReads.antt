-- Sets as a reader takes them apart, line by line.
use Rattle.std.proofs.Common.{◌≡◌, ℕ, zero, suc, ◌+◌, ◌%◌, ◌^◌, ◌<◌, ◌≤◌, Bool, true, false, cond, ◌⊎◌, List, [], ◌∷◌, ◌++◌, map, length, get_or, codes, decimal, sym, refl, ap, ◌∙◌, subst, ⊎_elim, add-one, arith}
use native.Mathlib.Nat.{zero-div}
use Rattle.std.proofs.lemmas.Fmt.{decimal_injective}
use Rattle.std.proofs.lemmas.List.{append-nil, append_assoc}
use Rattle.std.proofs.lemmas.Bool.{cases_lt, cases_eq}
use Rattle.sets.specs.Sets.{Has, Within, IsLines}
use Rattle.script.specs.Menus.{is_in, lines_below, marked, parted}
use Rattle.std.specs.Bool.{then_some}
use Rattle.script.specs.Reading.{Lacks, Parts, ReadsLine, Short, lines_text, set_text}
use Rattle.script.proofs.Listing.{gap_after, gap_push, lines_none, lines_with, lines_without, parted_more}
use Rattle.script.proofs.Parsing.{decimal_lacks, lacks_not, lacks_append, lacks_cons, lacks_none, one_parting}

-- rising numbers from `least` on, below `top`
abbrev pub Rising : ℕ → List ℕ → ℕ → Type 0
Rising least [] top = least ≤ top
Rising least (n ∷ ns) top = (least ≤ n) × Rising (n + 1) ns top

pub rising_le : (least : ℕ) (ns : List ℕ) (top : ℕ) → Rising least ns top → least ≤ top
rising_le least [] top r = r
rising_le least (n ∷ ns) top r = let h = rising_le (n + 1) ns top r.1 in omega (arith, r.0)

rising_wider : (least : ℕ) (ns : List ℕ) (top : ℕ) → Rising least ns top → Rising least ns (suc top)
rising_wider least [] top r = omega arith
rising_wider least (n ∷ ns) top r = (r.0, rising_wider (n + 1) ns top r.1)

rising_push : (least : ℕ) (ns : List ℕ) (top : ℕ) → Rising least ns top → Rising least (ns ++ (top ∷ [])) (suc top)
rising_push least [] top r = (r, omega arith)
rising_push least (n ∷ ns) top r = (r.0, rising_push (n + 1) ns top r.1)

-- the lines of a set rise
pub lines_rising : (set n : ℕ) → Rising 0 (lines_below set n) n
unfolding lines_below
lines_rising set zero = omega arith
lines_rising set (suc n) = by_bit (is_in set n) (lines_rising set n)
  where
    by_bit : (b : Bool) → Rising 0 (lines_below set n) n → Rising 0 (cond b (lines_below set n ++ (n ∷ [])) (lines_below set n)) (suc n)
    by_bit true r = rising_push 0 (lines_below set n) n r
    by_bit false r = rising_wider 0 (lines_below set n) n r

has_or_not : (set n : ℕ) → Has set n ⊎ (Has set n → ⊥)
has_or_not set n = cases_eq _ 1

-- sets with the same lines below n
lines_same : (s t n : ℕ) → ((k : ℕ) → k < n → Has s k → Has t k) → ((k : ℕ) → k < n → Has t k → Has s k) → lines_below s n ≡ lines_below t n
lines_same s t zero to from = lines_none s ∙ sym (lines_none t)
lines_same s t (suc n) to from =
    let below = lines_same s t n (λ k h. to k (omega arith)) (λ k h. from k (omega arith)) in
    let P : ℕ → Type 0 = λ m. lines_below s m ≡ lines_below t m in
    subst P (add-one n)
    (⊎_elim
    (λ has. lines_with s n has ∙ (ap (λ l. l ++ (n ∷ [])) below ∙ sym (lines_with t n (to n (omega arith) has))))
    (λ not. lines_without s n not ∙ (below ∙ sym (lines_without t n (λ h. not (from n (omega arith) h)))))
    (has_or_not s n))

-- a stretch of lines that the set lacks
lines_skip : (s m n : ℕ) → m ≤ n → ((k : ℕ) → m ≤ k → k < n → Has s k → ⊥) → lines_below s n ≡ lines_below s m
lines_skip s m zero le lacks = let e : m ≡ 0 = omega arith in ap (lines_below s) (sym e)
lines_skip s m (suc n) le lacks = ⊎_elim more (λ h. here h (lines_skip s m n h (λ k a b. lacks k a (omega arith)))) (cases_lt n m)
  where
    here : m ≤ n → lines_below s n ≡ lines_below s m → lines_below s (suc n) ≡ lines_below s m
    here h below =
        let P : ℕ → Type 0 = λ k. lines_below s k ≡ lines_below s m in
        subst P (add-one n) (lines_without s n (lacks n h (omega arith)) ∙ below)

    more : n < m → lines_below s (suc n) ≡ lines_below s m
    more h = let e : suc n ≡ m = omega arith in ap (lines_below s) e

-- t is s with the line n, which is above all lines of s
pub record Added (s n t : ℕ) : Type 0 where
  pub old : Within s t
  pub new : Has t n
  pub only : (k : ℕ) → Has t k → Has s k ⊎ (k ≡ n)

pub lines_added : (s least n t : ℕ) → ((k : ℕ) → least ≤ k → Has s k → ⊥) → least ≤ n → Added s n t → lines_below t (n + 1) ≡ lines_below s least ++ (n ∷ [])
lines_added s least n t low le a =
    lines_with t n a.new
    ∙ ap (λ l. l ++ (n ∷ []))
    (lines_skip t least n le (λ k from below has. ⊎_elim (low k from) (λ e. omega arith) (a.only k has))
    ∙ sym (lines_same s t least (λ k h. a.old k) (λ k h has. ⊎_elim (λ x. x) (λ e. absurd (omega arith)) (a.only k has))))

-- What was read of a field: `lines` has the lines so far, all below `least`, and `rest` is still to be read.
-- If the field is the text of rising lines, so is what is left.
pub record SoFar (field : List ℕ) (lines least : ℕ) (rest : List ℕ) : Type 0 where
  pub fits : lines < 2 ^ 64
  pub low : (k : ℕ) → least ≤ k → Has lines k → ⊥
  pub done : field ≡ parted (codes ",") (map decimal (lines_below lines least)) ++ (gap_after (codes ",") (lines_below lines least) ++ rest)
  pub left : (n : ℕ) (ns : List ℕ) → Rising 0 (n ∷ ns) 64 → field ≡ lines_text (n ∷ ns) → (m : ℕ) × (ms : List ℕ) × Rising least (m ∷ ms) 64 × (rest ≡ lines_text (m ∷ ms))

pub none_has : (n : ℕ) → Has 0 n → ⊥
none_has n h = omega (arith, ap (λ x. x % 2) (zero-div (2 ^ n)), h)

pub nothing_read : (field : List ℕ) → SoFar field 0 0 field
nothing_read field = record {
  fits = omega arith;
  low = λ k _ h. none_has k h;
  done = sym (ap (λ l. parted (codes ",") (map decimal l) ++ (gap_after (codes ",") l ++ field)) (lines_none 0));
  left = λ n ns r e. (n, ns, r, e);
}

-- the first line that is left, where a comma follows it
pub first_left : (field : List ℕ) (lines least : ℕ) (rest item more : List ℕ) → SoFar field lines least rest → Parts rest 44 item more → (n : ℕ) (ns : List ℕ) → Rising 0 (n ∷ ns) 64 → field ≡ lines_text (n ∷ ns) → (m : ℕ) × (k : ℕ) × (ks : List ℕ) × Rising least (m ∷ k ∷ ks) 64 × (item ≡ decimal m) × (more ≡ lines_text (k ∷ ks))
first_left field lines least rest item more p q n ns r e =
    let l = p.left n ns r e in go l.0 l.1 l.2 l.3
  where
    go : (m : ℕ) (ms : List ℕ) → Rising least (m ∷ ms) 64 → rest ≡ lines_text (m ∷ ms) → (m : ℕ) × (k : ℕ) × (ks : List ℕ) × Rising least (m ∷ k ∷ ks) 64 × (item ≡ decimal m) × (more ≡ lines_text (k ∷ ks))
    go m [] rises is =
        let P : List ℕ → Type 0 = λ x. Lacks 44 x in
        absurd (lacks_not 44 item more (subst P (sym (append-nil (decimal m)) ∙ (sym is ∙ q.whole)) (decimal_lacks m 44 (omega (arith, rises.1)) (omega arith))))
    go m (k ∷ ks) rises is =
        let low = rising_le (m + 1) (k ∷ ks) 64 rises.1 in
        let both = one_parting 44 item more (decimal m) (lines_text (k ∷ ks)) q.clear (decimal_lacks m 44 (omega arith) (omega arith)) (sym q.whole ∙ is) in
        (m, k, ks, rises, both.0, both.1)

-- the last line that is left, with no comma
pub last_left : (field : List ℕ) (lines least : ℕ) (rest : List ℕ) → SoFar field lines least rest → Lacks 44 rest → (n : ℕ) (ns : List ℕ) → Rising 0 (n ∷ ns) 64 → field ≡ lines_text (n ∷ ns) → (m : ℕ) × (least ≤ m) × (m < 64) × (rest ≡ decimal m)
last_left field lines least rest p clear n ns r e =
    let l = p.left n ns r e in go l.0 l.1 l.2 l.3
  where
    go : (m : ℕ) (ms : List ℕ) → Rising least (m ∷ ms) 64 → rest ≡ lines_text (m ∷ ms) → (m : ℕ) × (least ≤ m) × (m < 64) × (rest ≡ decimal m)
    go m [] rises is = (m, rises.0, omega (arith, rises.1), is ∙ append-nil (decimal m))
    go m (k ∷ ks) rises is =
        let P : List ℕ → Type 0 = λ x. Lacks 44 x in
        absurd (lacks_not 44 (decimal m) (lines_text (k ∷ ks)) (subst P is clear))

regroup : (p g d t : List ℕ) → p ++ (g ++ (d ++ t)) ≡ (p ++ (g ++ d)) ++ t
regroup p g d t = simp append_assoc

pub one_more : (field : List ℕ) (lines least : ℕ) (rest item more : List ℕ) (line set : ℕ) → SoFar field lines least rest → Parts rest 44 item more → least ≤ line → line < 64 → item ≡ decimal line → Added lines line set → set < 2 ^ 64 → SoFar field set (line + 1) more
one_more field lines least rest item more line set p q from below is a fits = record {
  fits = fits;
  low = λ k h has. ⊎_elim (p.low k (omega arith)) (λ e. omega arith) (a.only k has);
  done =
      let ns = lines_below lines least in
      let text : List ℕ → List ℕ = λ l. parted (codes ",") (map decimal l) in
      let gap : List ℕ → List ℕ = λ l. gap_after (codes ",") l in
      let whole : rest ≡ decimal line ++ (44 ∷ more) = q.whole ∙ ap (λ x. x ++ (44 ∷ more)) is in
      p.done
      ∙ (ap (λ x. text ns ++ (gap ns ++ x)) whole
      ∙ (regroup (text ns) (gap ns) (decimal line) (44 ∷ more)
      ∙ (ap (λ x. x ++ (44 ∷ more)) (sym (parted_more (codes ",") decimal ns line))
      ∙ (ap (λ x. text (ns ++ (line ∷ [])) ++ (x ++ more)) (sym (gap_push (codes ",") ns line))
      ∙ ap (λ l. text l ++ (gap l ++ more)) (sym (lines_added lines least line set p.low from a))))));
  left = λ n ns r e.
      let f = first_left field lines least rest item more p q n ns r e in
      let short = rising_le (f.0 + 1) (f.1 ∷ f.2) 64 f.3.1 in
      let same : f.0 ≡ line = decimal_injective f.0 line (omega arith) (omega arith) (sym f.4 ∙ is) in
      let P : ℕ → Type 0 = λ m. Rising (m + 1) (f.1 ∷ f.2) 64 in
      (f.1, f.2, subst P same f.3.1, f.5);
}

text_push : (ns : List ℕ) (n : ℕ) → lines_text (ns ++ (n ∷ [])) ≡ parted (codes ",") (map decimal (ns ++ (n ∷ [])))
text_push [] n = refl
text_push (m ∷ ms) n = refl

pub all_read : (field : List ℕ) (lines least : ℕ) (rest : List ℕ) (line set : ℕ) → SoFar field lines least rest → least ≤ line → line < 64 → rest ≡ decimal line → Added lines line set → field ≡ set_text set
unfolding set_text
all_read field lines least rest line set p from below is a =
    let ns = lines_below lines least in
    let all : lines_below set 64 ≡ ns ++ (line ∷ []) =
    lines_skip set (line + 1) 64 (omega arith) (λ k h _ has. ⊎_elim (p.low k (omega arith)) (λ e. omega arith) (a.only k has))
    ∙ lines_added lines least line set p.low from a in
    p.done
    ∙ (ap (λ x. parted (codes ",") (map decimal ns) ++ (gap_after (codes ",") ns ++ x)) is
    ∙ (sym (parted_more (codes ",") decimal ns line) ∙ (sym (text_push ns line) ∙ ap lines_text (sym all))))

-- a field that is the text of no rising lines can only be the text of the empty set
pub only_empty : (field : List ℕ) → ((n : ℕ) (ns : List ℕ) → Rising 0 (n ∷ ns) 64 → field ≡ lines_text (n ∷ ns) → ⊥) → (set : ℕ) → IsLines set → field ≡ set_text set → field ≡ codes "."
unfolding set_text
only_empty field none set fits e = go (lines_below set 64) (lines_rising set 64) e
  where
    go : (ns : List ℕ) → Rising 0 ns 64 → field ≡ lines_text ns → field ≡ codes "."
    go [] r is = is
    go (n ∷ ns) r is = absurd (none n ns r is)

pub empty_text : set_text 0 ≡ codes "."
unfolding set_text
empty_text = ap lines_text (lines_skip 0 0 64 (omega arith) (λ k _ _ h. none_has k h) ∙ lines_none 0)

-- no set's text has a space
marked_lacks : (least : ℕ) (ns : List ℕ) → Rising least ns 64 → Lacks 32 (marked (codes ",") (map decimal ns))
marked_lacks least [] r = lacks_none 32
marked_lacks least (n ∷ ns) r =
    let low = rising_le (n + 1) ns 64 r.1 in
    lacks_cons 32 44 _ (λ e. omega arith)
    (lacks_append 32 (decimal n) _ (decimal_lacks n 32 (omega arith) (omega arith)) (marked_lacks (n + 1) ns r.1))

lines_lack : (ns : List ℕ) → Rising 0 ns 64 → Lacks 32 (lines_text ns)
lines_lack [] r = lacks_cons 32 46 [] (λ e. omega arith) (lacks_none 32)
lines_lack (n ∷ ns) r =
    let low = rising_le (n + 1) ns 64 r.1 in
    lacks_append 32 (decimal n) _ (decimal_lacks n 32 (omega arith) (omega arith)) (marked_lacks (n + 1) ns r.1)

pub set_lacks : (set : ℕ) → Lacks 32 (set_text set)
unfolding set_text
set_lacks set = lines_lack (lines_below set 64) (lines_rising set 64)

-- a text of one byte
pub one_byte : (x : ℕ) (text : List ℕ) → length text ≡ 1 → get_or text 0 0 ≡ x → text ≡ x ∷ []
one_byte x [] one first = absurd (omega arith)
one_byte x (y ∷ []) one first = cc
one_byte x (y ∷ z ∷ rest) one first = absurd (omega arith)

-- a number that is taken for a line where it is in range
pub line_read : (field : List ℕ) (least line : ℕ) (b : Bool) → Short line → field ≡ decimal line → (b ≡ true → (least ≤ line) × (line < 64)) → (b ≡ false → least ≤ line → line < 64 → ⊥) → ReadsLine field least (then_some b line)
line_read field least line true short is inside outside = let h = inside refl in (h.0, h.1, is)
line_read field least line false short is inside outside = λ n low high e.
    let same = decimal_injective line n (omega arith) (omega arith) (sym is ∙ e) in
    outside refl (omega (arith, same)) (omega (arith, same))
