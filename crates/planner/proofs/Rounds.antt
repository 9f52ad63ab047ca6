-- Rounds over rules: what one more rule adds, and that a try ends with the smallest closed set.
use Rattle.std.proofs.Common.{◌≡◌, ℕ, ◌+◌, ◌<◌, ◌≤◌, eqb, ◌⊎◌, Bool, true, false, List, length, is_some, Some, Decides, Option, MatchOption, sym, refl, ap, ◌∙◌, subst, arith}
use native.Mathlib.Decide.{ℕ_discrete}
use lib.Bits.{bit_and}
use Rattle.std.specs.Bool.{then_some}
use Rattle.std.proofs.lemmas.Bool.{false≢true}
use Rattle.std.proofs.lemmas.Bool.Decides.{Decides-eqb, Decides-like}
use Rattle.sets.specs.Sets.{Has, Within, IsLines, Smallest}
use Rattle.sets.specs.Picks.{Picks}
use Rattle.sets.proofs.Lines.{and_has, and_has_left, and_has_right, none_has, same_lines, smallest_like, smallest_same}
use Rattle.sets.proofs.Picking.{picks_same}
use Rattle.facts.specs.Meaning.{Meaning}
use Rattle.facts.specs.Closure.{Passed}
use Rattle.facts.specs.ClosureLemmas.{passed_none, passed_line, passed_then, Stable}
use Rattle.book.specs.Rows.{at}
use Rattle.book.specs.declared.rows.Rule.{Rule}
use Rattle.sets.proofs.Rows.{some_same}
use Rattle.book.proofs.Tables.{full_below}
use Rattle.laws.specs.Menus.{Open, Obeys, Closed}
use Rattle.laws.specs.Laws.{Found}

-- an unless-set that has no line in common with the guess leaves the rule open
pub open_decides : (r : Rule) (e : ℕ) → Decides (eqb (bit_and r.unless e) 0) (Open r e)
open_decides r e = Decides-like _ apart meets (Decides-eqb (bit_and r.unless e) 0)
  where
    apart : bit_and r.unless e ≡ 0 → Open r e
    apart z n h k = none_has n (subst (λ s. Has s n) z (and_has r.unless e n h k))

    meets : Open r e → bit_and r.unless e ≡ 0
    meets free = same_lines (bit_and r.unless e) 0 (λ n h. absurd (free n (and_has_left r.unless e n h) (and_has_right r.unless e n h))) (λ n h. absurd (none_has n h))

module _ (rules : List (Option Rule)) (e : ℕ) where
  -- s obeys the rule at place p
  abbrev ObeysAt : ℕ → ℕ → Type 0
  ObeysAt p s = (r : Rule) → at rules p ≡ Some r → Open r e → Within r.needs s → Has s r.gives

  -- s obeys the rules at the places below i
  abbrev pub ObeysBelow : ℕ → ℕ → Type 0
  ObeysBelow i s = (p : ℕ) → p < i → ObeysAt p s

  pub round_start : (s : ℕ) → IsLines s → Passed (ObeysBelow 0) s s
  round_start s l = passed_none (ObeysBelow 0) s l (λ p lt. absurd (omega arith))

  round_then : (i s a b : ℕ) → Passed (ObeysBelow i) s a → Passed (ObeysAt i) a b → Passed (ObeysBelow (i + 1)) s b
  round_then i s a b p q =
      passed_then (ObeysBelow i) (ObeysAt i) (ObeysBelow (i + 1)) s a b
      (λ c all. (λ k lt. all k (omega arith), all i (omega arith)))
      (λ c below here k lt. elim (ℕ_discrete k i) [ yes e ↦ subst (λ j. ObeysAt j c) (sym e) here | no other ↦ below k (omega arith) ])
      p q

  -- the place holds a rule that fires: it adds its line
  pub round_fires : (i s a b : ℕ) (r : Rule) → Passed (ObeysBelow i) s a → at rules i ≡ Some r → Open r e × Within r.needs a → IsLines b → Within a b → Has b r.gives → ((n : ℕ) → Has b n → Has a n ⊎ (n ≡ r.gives)) → Passed (ObeysBelow (i + 1)) s b
  round_fires i s a b r p here fires l up new only =
      round_then i s a b p
      (passed_line (ObeysAt i) a b r.gives l up only
      (λ c obeys w. obeys r here fires.0 (λ n h. w n (fires.1 n h)))
      (λ k at-k free needs. let same : r ≡ k = some_same (sym here ∙ at-k) in subst (λ x. Has b x.gives) same new))

  -- the place holds a rule that does not fire, or none
  pub round_rests : (i s a : ℕ) → Passed (ObeysBelow i) s a → ((r : Rule) → at rules i ≡ Some r → Open r e × Within r.needs a → ⊥) → Passed (ObeysBelow (i + 1)) s a
  round_rests i s a p rests = round_then i s a a p (passed_none (ObeysAt i) a p.lines (λ r here free needs. absurd (rests r here (free, needs))))

  -- all places were gone through
  pub round_all : (i s a : ℕ) → length rules ≤ i → Passed (ObeysBelow i) s a → Passed (Obeys rules e) s a
  round_all i s a end p = record {
    lines = p.lines;
    grows = p.grows;
    inside = λ c l obeys w. p.inside c l (λ k lt r here. obeys k r here) w;
    done = λ same k r here. p.done same k (let lt = full_below rules k (ap is_some here) in omega arith) r here;
  }

  -- the smallest stable set is the smallest closed one
  pub closed_from : (m : Meaning) (s : ℕ) → Smallest (Stable m (Obeys rules e) 0) s → Smallest (Closed m rules e) s
  closed_from m s least =
      smallest_like (Stable m (Obeys rules e) 0) (Closed m rules e) s
      (λ t st. record { left = st.left; obeys = st.obeys })
      (λ t c. record { starts = λ n h. absurd (none_has n h); left = c.left; obeys = c.obeys })
      least

-- a try whose set does not agree with its guess finds nothing
pub found_only : (m : Meaning) (rules : List (Option Rule)) (unless g guess t s : ℕ) → Picks unless g guess → Smallest (Closed m rules guess) t → Found m rules unless g s → bit_and t unless ≡ guess
found_only m rules unless g guess t s picked least found =
    let same-guess : found.guess ≡ guess = picks_same unless g found.guess guess found.picked picked in
    let same_set : s ≡ t = smallest_same (Closed m rules guess) s t (subst (λ e. Smallest (Closed m rules e) s) same-guess found.least) least in
    ap (λ x. bit_and x unless) (sym same_set) ∙ found.agrees ∙ same-guess

-- a try finds its set, if that agrees with its guess
pub found_if : (m : Meaning) (rules : List (Option Rule)) (unless g guess t : ℕ) (agrees : Bool) → Picks unless g guess → Smallest (Closed m rules guess) t → Decides agrees (bit_and t unless ≡ guess)
    → MatchOption (then_some agrees t) ((s : ℕ) → Found m rules unless g s → ⊥) (Found m rules unless g)
found_if m rules unless g guess t true picked least tells = record { guess = guess; picked = picked; least = least; agrees = tells.0 refl }
found_if m rules unless g guess t false picked least tells = λ s found. false≢true (tells.1 (found_only m rules unless g guess t s picked least found))
