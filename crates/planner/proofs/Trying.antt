-- One guess more was read.
use Rattle.std.proofs.Common.{◌≡◌, ℕ, ◌+◌, ◌-◌, ◌<◌, ◌≤◌, List, [], ◌∷◌, ◌++◌, length, take, drop, set, sym, refl, ap, ◌∙◌, subst, arith}
use native.Mathlib.Decide.{ℕ_discrete}
use Rattle.std.proofs.lemmas.List.{take_more_set, length-set, get_or-set_same, drop-drop, drop-set-lt}
use Rattle.planner.specs.Tries.{Reads, Reading}

add_sub_one : (n : ℕ) → n + 1 - 1 ≡ n
add_sub_one n = omega arith

module _ (F : ℕ → ℕ → Type 0) where
  pub reads_start : (from : ℕ) → Reads F from [] from
  reads_start from = (omega arith, λ g s a b f. omega arith)

  pub reads_found : (from next s : ℕ) (sets : List ℕ) → Reads F from sets next → F next s → Reads F from (sets ++ s ∷ []) (next + 1)
  reads_found from next s [] r f = (next, r.0, f, (λ h t a b k. r.1 h t a b k), reads_start (next + 1))
  reads_found from next s (t ∷ rest) r f = (r.0, r.1, r.2, r.3, reads_found (r.0 + 1) next s rest r.4 f)

  pub reads_missed : (from next : ℕ) (sets : List ℕ) → Reads F from sets next → ((s : ℕ) → F next s → ⊥) → Reads F from sets (next + 1)
  reads_missed from next [] r none =
      (omega (arith, r.0), λ g s a b f. elim (ℕ_discrete g next) [ yes e ↦ none s (subst (λ k. F k s) e f) | no other ↦ r.1 g s a (omega arith) f ])
  reads_missed from next (t ∷ rest) r none = (r.0, r.1, r.2, r.3, reads_missed (r.0 + 1) next rest r.4 none)

  module _ (from total : ℕ) (before : List ℕ) where
    pub reading_start : from ≤ total → Reading F from total before before 0 from
    reading_start upto = record {
      reads = reads_start from;
      upto = upto;
      fits = omega arith;
      same_length = refl;
      stays = refl;
      no_place = λ _. refl;
      full = λ a _. absurd (omega arith);
    }

    module _ (after : List ℕ) (count next : ℕ) (at : Reading F from total before after count next) (room : count < length after) (left : next < total) where
      -- the guess found s, which goes to the next place
      pub reading_found : (s : ℕ) → F next s → Reading F from total before (set after count s) (count + 1) (next + 1)
      reading_found s f = record {
        reads = subst (λ sets. Reads F from sets (next + 1)) (sym (take_more_set after count s room)) (reads_found from next s (take count after) at.reads f);
        upto = omega arith;
        fits = omega (arith, at.same_length);
        same_length = length-set after count s ∙ at.same_length;
        stays = drop-set-lt (count + 1) after count s (omega arith) ∙ (sym (drop-drop 1 count after) ∙ ap (drop 1) at.stays ∙ drop-drop 1 count before);
        no_place = λ none. absurd (omega (arith, at.same_length));
        full = λ _ _. rw (add_sub_one next, add_sub_one count, get_or-set_same after count s 0 room) f;
      }

      -- the guess found nothing
      pub reading_missed : ((s : ℕ) → F next s → ⊥) → Reading F from total before after count (next + 1)
      reading_missed none = record {
        reads = reads_missed from next (take count after) at.reads none;
        upto = omega arith;
        fits = at.fits;
        same_length = at.same_length;
        stays = at.stays;
        no_place = λ z. absurd (omega (arith, at.same_length));
        full = λ _ e. absurd (omega (arith, at.same_length));
      }
