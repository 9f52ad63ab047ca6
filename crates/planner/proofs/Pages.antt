-- From what a reading found to the page that list promises.
use Rattle.std.proofs.Common.{◌≡◌, ℕ, zero, suc, ◌+◌, ◌-◌, ◌<◌, ◌≤◌, List, [], ◌∷◌, length, get_or, take, sym, ◌∙◌, subst, arith}
use native.Mathlib.Decide.{dec_lt, ℕ_discrete}
use Rattle.std.proofs.lemmas.List.{get_or-take, length-take-le}
use Rattle.sets.specs.Sets.{IsLines}
use Rattle.facts.specs.Meaning.{Meaning}
use Rattle.laws.specs.Menus.{Covers, GuessOf}
use Rattle.laws.specs.Laws.{Found}
use Rattle.planner.specs.Tries.{Reads, Reading, Stopped}
use Rattle.laws.specs.World.{World, Page, guesses, guessed_of, rules_of}
use Rattle.laws.proofs.MenuLaws.{unless_covers, menu_from_found, picks_from_found, found_from_menu, found_same, before_from_guess}

module _ (F : ℕ → ℕ → Type 0) where
  reads_few : (from next : ℕ) (sets : List ℕ) → Reads F from sets next → from + length sets ≤ next
  reads_few from next [] r = omega (arith, r.0)
  reads_few from next (s ∷ rest) r = let more = reads_few (r.0 + 1) next rest r.4 in omega (arith, r.1)

  -- a set found by a reading, with its guess
  reads_each : (from next : ℕ) (sets : List ℕ) → Reads F from sets next → (i : ℕ) → i < length sets → (g : ℕ) × F g (get_or sets i 0) × (from ≤ g) × (g < next)
  reads_each from next [] r i lt = absurd (omega arith)
  reads_each from next (s ∷ rest) r zero lt = (r.0, r.2, r.1, let more = reads_few (r.0 + 1) next rest r.4 in omega arith)
  reads_each from next (s ∷ rest) r (suc i) lt = let k = reads_each (r.0 + 1) next rest r.4 i (omega arith) in (k.0, k.1, omega (arith, k.2, r.1), k.3)

  -- the guesses rise from place to place
  reads_order : (from next : ℕ) (sets : List ℕ) → Reads F from sets next → (i j : ℕ) → i < j → j < length sets → (g : ℕ) × (h : ℕ) × F g (get_or sets i 0) × F h (get_or sets j 0) × (g < h) × (h < next)
  reads_order from next [] r i j lt lj = absurd (omega arith)
  reads_order from next (s ∷ rest) r i zero lt lj = absurd (omega arith)
  reads_order from next (s ∷ rest) r zero (suc j) lt lj = let k = reads_each (r.0 + 1) next rest r.4 j (omega arith) in (r.0, k.0, r.2, k.1, omega (arith, k.2), k.3)
  reads_order from next (s ∷ rest) r (suc i) (suc j) lt lj = reads_order (r.0 + 1) next rest r.4 i j (omega arith) (omega arith)

  -- what a guess of the range finds stands in a place
  reads_every : ((g s t : ℕ) → F g s → F g t → s ≡ t) → (from next : ℕ) (sets : List ℕ) → Reads F from sets next → (g s : ℕ) → F g s → from ≤ g → g < next → (i : ℕ) × (i < length sets) × (get_or sets i 0 ≡ s)
  reads_every same from next [] r g s f lo hi = absurd (r.1 g s lo hi f)
  reads_every same from next (t ∷ rest) r g s f lo hi = by (λ above. reads_every same (r.0 + 1) next rest r.4 g s f above hi)
    where
      by : (r.0 + 1 ≤ g → (i : ℕ) × (i < length rest) × (get_or rest i 0 ≡ s)) → (i : ℕ) × (i < suc (length rest)) × (get_or (t ∷ rest) i 0 ≡ s)
      by later = elim (dec_lt g r.0) [
        | yes below ↦ absurd (r.3 g s lo below f)
        | no above ↦ elim (ℕ_discrete g r.0) [
          | yes e ↦ (zero, omega arith, same r.0 t s r.2 (subst (λ k. F k s) e f))
          | no other ↦ let k = later (omega arith) in (suc k.0, omega (arith, k.1), k.2)
        ]
      ]

module _ (m : Meaning) (w : World) (lines : IsLines (guessed_of w)) where
  guess_from : (g s : ℕ) → g < guesses w → Found m (rules_of w) (guessed_of w) g s → GuessOf (guessed_of w) s g
  guess_from g s below f = record { below = below; picks = picks_from_found m (rules_of w) (guessed_of w) g s f }

  pub page_from : (from : ℕ) (before after : List ℕ) (count next : ℕ) → Stopped (Found m (rules_of w) (guessed_of w)) from (guesses w) before after count next → Page m w from before after count next
  page_from from before after count next stopped = record {
    rises = omega (arith, few);
    upto = at.upto;
    each = λ i lt.
        let k = reads_each F from next (take count after) at.reads i (omega (arith, long)) in
        let f : Found m (rules_of w) (guessed_of w) k.0 (get_or after i 0) = subst (F k.0) (place i lt) k.1 in
        (menu_from_found m (rules_of w) (guessed_of w) covers k.0 (get_or after i 0) f, (k.0, guess_from k.0 (get_or after i 0) (omega (arith, k.3, at.upto)) f, k.2, k.3));
    every = λ s g menu guess lo hi.
        let f = found_from_menu m (rules_of w) (guessed_of w) covers g s menu guess.picks in
        let k = reads_every F (found_same m (rules_of w) (guessed_of w)) from next (take count after) at.reads g s f lo hi in
        let lt : k.0 < count = omega (arith, k.1, long) in
        (k.0, lt, sym (place k.0 lt) ∙ k.2);
    ordered = λ i j lt lj.
        let k = reads_order F from next (take count after) at.reads i j lt (omega (arith, long)) in
        before_from_guess (guessed_of w) (get_or after i 0) (get_or after j 0) k.0 k.1 lines k.4
        (guess_from k.0 _ (omega (arith, k.4, k.5, at.upto)) (subst (F k.0) (place i (omega arith)) k.2))
        (guess_from k.1 _ (omega (arith, k.5, at.upto)) (subst (F k.1) (place j lj) k.3));
    few = omega (arith, few, long);
    at_end = λ end. (omega (arith, few, long, at.upto), omega (arith, few, long, at.upto));
    fits = at.fits;
    same_length = at.same_length;
    stays = at.stays;
    goes_on = stopped.goes_on;
    no_place = at.no_place;
    full = λ some e. guess_from (next - 1) _ (omega (arith, few, long, at.upto)) (at.full some e);
  }
    where
      F : ℕ → ℕ → Type 0
      F = Found m (rules_of w) (guessed_of w)

      at : Reading (Found m (rules_of w) (guessed_of w)) from (guesses w) before after count next
      at = stopped.reading

      covers : Covers (guessed_of w) (rules_of w)
      covers = unless_covers (rules_of w)

      long : length (take count after) ≡ count
      long = length-take-le count after (omega (arith, at.fits, at.same_length))

      few : from + length (take count after) ≤ next
      few = reads_few (Found m (rules_of w) (guessed_of w)) from next (take count after) at.reads

      place : (i : ℕ) → i < count → get_or (take count after) i 0 ≡ get_or after i 0
      place i lt = get_or-take count after i 0 lt
