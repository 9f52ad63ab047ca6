-- Lists of sets that are the menus of a stretch of guesses: one page, and pages joined.
use Rattle.std.proofs.Common.{◌≡◌, ℕ, zero, suc, ◌+◌, ◌<◌, ◌≤◌, List, [], ◌∷◌, ◌++◌, length, get_or, take, Option, sym, ap, ◌∙◌, arith}
use native.Mathlib.Decide.{dec_lt}
use Rattle.std.proofs.lemmas.List.{length-append, length-take-le, get_or-take, get_or_append_left, get_or-append-add, nil_from_length}
use Rattle.sets.specs.Sets.{Within, IsLines}
use Rattle.sets.proofs.Lines.{same_lines, smallest_like}
use Rattle.facts.specs.Meaning.{Meaning}
use Rattle.book.specs.Rows.{at, unless_lines}
use Rattle.book.specs.declared.rows.Rule.{Rule}
use Rattle.book.proofs.Tables.{union_at, union_has}
use Rattle.laws.specs.Menus.{Closed, Offered, GuessOf, Before}
use Rattle.laws.specs.World.{World, Page, rules_of, guesses}
use Rattle.laws.specs.Law.{guesses_of, ExactlyMenus}
use Rattle.laws.proofs.MenuLaws.{menus_apart, guess_exists, before_from_guess}

-- ---- two lists, one behind the other

-- what holds of each element of both
each_append : (P : ℕ → Type 0) (xs ys : List ℕ) → ((i : ℕ) → i < length xs → P (get_or xs i 0)) → ((i : ℕ) → i < length ys → P (get_or ys i 0)) → (i : ℕ) → i < length (xs ++ ys) → P (get_or (xs ++ ys) i 0)
each_append P [] ys a b i lt = b i lt
each_append P (x ∷ xs) ys a b zero lt = a 0 (omega arith)
each_append P (x ∷ xs) ys a b (suc i) lt = each_append P xs ys (λ k l. a (suc k) (omega arith)) b i (omega arith)

-- what holds of any two of the first, of any two of the second, and of one of each
pairs_append : (R : ℕ → ℕ → Type 0) (xs ys : List ℕ)
    → ((i j : ℕ) → i < j → j < length xs → R (get_or xs i 0) (get_or xs j 0))
    → ((i j : ℕ) → i < j → j < length ys → R (get_or ys i 0) (get_or ys j 0))
    → ((i j : ℕ) → i < length xs → j < length ys → R (get_or xs i 0) (get_or ys j 0))
    → (i j : ℕ) → i < j → j < length (xs ++ ys) → R (get_or (xs ++ ys) i 0) (get_or (xs ++ ys) j 0)
pairs_append R [] ys a b cross i j lt lj = b i j lt lj
pairs_append R (x ∷ xs) ys a b cross i zero lt lj = absurd (omega arith)
pairs_append R (x ∷ xs) ys a b cross zero (suc j) lt lj = each_append (R x) xs ys (λ k l. a 0 (suc k) (omega arith) (omega arith)) (λ k l. cross 0 k (omega arith) l) j (omega arith)
pairs_append R (x ∷ xs) ys a b cross (suc i) (suc j) lt lj =
    pairs_append R xs ys (λ k n l ln. a (suc k) (suc n) (omega arith) (omega arith)) b (λ k n l ln. cross (suc k) n (omega arith) ln) i j (omega arith) (omega arith)

-- ---- tables with the same rules

-- the same rule stands at each place
abbrev pub Alike : List (Option Rule) → List (Option Rule) → Type 0
Alike rules others = (p : ℕ) → at rules p ≡ at others p

pub alike_back : (rules others : List (Option Rule)) → Alike rules others → Alike others rules
alike_back rules others same p = sym (same p)

unless_within : (rules others : List (Option Rule)) → Alike rules others → Within (unless_lines rules) (unless_lines others)
unless_within rules others same n h =
    let r = union_has (λ x. x.unless) rules n h in
    union_at (λ x. x.unless) others r.0 n r.1 (sym (same r.0) ∙ r.2) r.3

-- the same lines are guessed about
pub unless_alike : (rules others : List (Option Rule)) → Alike rules others → unless_lines rules ≡ unless_lines others
unless_alike rules others same =
    same_lines (unless_lines rules) (unless_lines others) (unless_within rules others same) (unless_within others rules (alike_back rules others same))

module _ (m : Meaning) where
  closed_alike : (rules others : List (Option Rule)) → Alike rules others → (e s : ℕ) → Closed m rules e s → Closed m others e s
  closed_alike rules others same e s c = record { left = c.left; obeys = λ p r here. c.obeys p r (same p ∙ here) }

  -- and the same menus are offered
  pub offered_alike : (rules others : List (Option Rule)) → Alike rules others → (s : ℕ) → Offered m rules s → Offered m others s
  offered_alike rules others same s =
      smallest_like (Closed m rules s) (Closed m others s) s (closed_alike rules others same s) (closed_alike others rules (alike_back rules others same) s)

-- ---- stretches

-- a menu whose guess lies from `from` up to `next`
abbrev pub Lies : Meaning → List (Option Rule) → ℕ → ℕ → ℕ → Type 0
Lies m rules from next s = Offered m rules s × ((g : ℕ) × GuessOf (unless_lines rules) s g × (from ≤ g) × (g < next))

-- the sets are the menus whose guesses lie from `from` up to `next`, in order
pub record Stretch (m : Meaning) (rules : List (Option Rule)) (from next : ℕ) (sets : List ℕ) : Type 0 where
  pub rises : from ≤ next
  pub each : (i : ℕ) → i < length sets → Lies m rules from next (get_or sets i 0)
  pub every : (s g : ℕ) → Offered m rules s → GuessOf (unless_lines rules) s g → from ≤ g → g < next → (i : ℕ) × (i < length sets) × (get_or sets i 0 ≡ s)
  pub ordered : (i j : ℕ) → i < j → j < length sets → Before (unless_lines rules) (get_or sets i 0) (get_or sets j 0)

-- the places that one list filled
pub page_stretch : (m : Meaning) (w : World) (from : ℕ) (before after : List ℕ) (count next : ℕ) → Page m w from before after count next → Stretch m (rules_of w) from next (take count after)
page_stretch m w from before after count next page =
    let filled : length (take count after) ≡ count = length-take-le count after (omega (arith, page.fits, page.same_length)) in
    record {
      rises = page.rises;
      each = λ i lt. let l : i < count = omega arith in rw (get_or-take count after i 0 l) (page.each i l);
      every = λ s g menu guess up lt. let k = page.every s g menu guess up lt in (k.0, omega (arith, k.1), get_or-take count after k.0 0 k.1 ∙ k.2);
      ordered = λ i j lt lj.
          let l : i < count = omega arith in
          let lc : j < count = omega arith in
          rw (get_or-take count after i 0 l, get_or-take count after j 0 lc) (page.ordered i j lt lc);
    }

-- accepted from below the number of guesses, with a place on the page, a list gets on
pub page_rises : (m : Meaning) (w : World) (from : ℕ) (before after : List ℕ) (count next : ℕ) → 0 < length before → from < guesses w → Page m w from before after count next → from < next
page_rises m w from before after count next some lt page =
    elim (dec_lt count (length before)) [ yes free ↦ omega (arith, page.goes_on free) | no full ↦ omega (arith, page.few) ]

module _ (m : Meaning) (rules : List (Option Rule)) where
  pub stretch_none : (from : ℕ) → Stretch m rules from from []
  stretch_none from = record {
    rises = omega arith;
    each = λ i lt. absurd (omega arith);
    every = λ s g menu guess up lt. absurd (omega arith);
    ordered = λ i j lt lj. absurd (omega arith);
  }

  -- a stretch under rules is one under any table with the same rules
  pub stretch_alike : (others : List (Option Rule)) → Alike rules others → (from next : ℕ) (sets : List ℕ) → Stretch m rules from next sets → Stretch m others from next sets
  stretch_alike others same from next sets a =
      let e = unless_alike rules others same in record {
        rises = a.rises;
        each = λ i lt. let k = a.each i lt in (offered_alike m rules others same (get_or sets i 0) k.0, (k.1.0, rw e at k.1.1, k.1.2, k.1.3));
        every = λ s g menu guess. a.every s g (offered_alike m others rules (alike_back rules others same) s menu) (rw (← e) at guess);
        ordered = λ i j lt lj. rw e at (a.ordered i j lt lj);
      }

  lies_wider : (from next low high s : ℕ) → low ≤ from → next ≤ high → Lies m rules from next s → Lies m rules low high s
  lies_wider from next low high s l h k = (k.0, (k.1.0, k.1.1, omega (arith, k.1.2), omega (arith, k.1.3)))

  module _ (lines : IsLines (unless_lines rules)) where
    -- two stretches that meet
    pub stretch_join : (from mid next : ℕ) (xs ys : List ℕ) → Stretch m rules from mid xs → Stretch m rules mid next ys → Stretch m rules from next (xs ++ ys)
    stretch_join from mid next xs ys a b = record {
      rises = omega (arith, a.rises, b.rises);
      each = each_append (Lies m rules from next) xs ys
          (λ i lt. lies_wider from mid from next (get_or xs i 0) (omega arith) b.rises (a.each i lt))
          (λ i lt. lies_wider mid next from next (get_or ys i 0) a.rises (omega arith) (b.each i lt));
      every = λ s g menu guess up lt. elim (dec_lt g mid) [
        | yes low ↦ let k = a.every s g menu guess up low in (k.0, omega (arith, k.1, length-append xs ys), get_or_append_left xs ys 0 k.0 k.1 ∙ k.2)
        | no high ↦ let k = b.every s g menu guess (omega arith) lt in (length xs + k.0, omega (arith, k.1, length-append xs ys), get_or-append-add xs ys k.0 0 ∙ k.2)
      ];
      ordered = pairs_append (Before (unless_lines rules)) xs ys a.ordered b.ordered
          (λ i j li lj.
          let s = (a.each i li).1 in
          let t = (b.each j lj).1 in
          before_from_guess (unless_lines rules) (get_or xs i 0) (get_or ys j 0) s.0 t.0 lines (omega (arith, s.3, t.2)) s.1 t.1);
    }

    -- a stretch over all guesses
    pub stretch_all : (sets : List ℕ) → Stretch m rules 0 (guesses_of rules) sets → ExactlyMenus m rules sets
    stretch_all sets a = record {
      each = λ i lt. (a.each i lt).0;
      every = every;
      ordered = a.ordered;
      empty = λ none s menu. omega (arith, (every s menu).1, ap length none);
      none = λ no-menu. nil_from_length sets (elim (dec_lt 0 (length sets)) [ yes some ↦ absurd (no-menu (get_or sets 0 0) (a.each 0 some).0) | no none ↦ omega arith ]);
      apart = menus_apart m rules;
    }
      where
        every : (s : ℕ) → Offered m rules s → (i : ℕ) × (i < length sets) × (get_or sets i 0 ≡ s)
        every s menu = let g = guess_exists (unless_lines rules) s lines in a.every s g.0 menu g.1 (omega arith) g.1.below
