-- The smallest set that stands in the layers over clauses is the smallest that agrees with the rows.
use Rattle.std.proofs.Common.{◌≡◌, ℕ, List, Option, sym, subst, inl, inr, ⊎_elim}
use lib.Bits.{bit_or}
use Rattle.sets.specs.Sets.{Has, IsLines, Smallest}
use Rattle.sets.proofs.Lines.{or_has, or_has_left, or_has_right, same_lines}
use Rattle.facts.specs.Steps.{lines_of}
use Rattle.facts.specs.declared.step.Step.{Step}
use Rattle.clauses.specs.Rows.{Exactly, SensedLines, atom_count}
use Rattle.clauses.specs.Computed.{clausal}
use Rattle.clauses.specs.declared.clause.Clause.{Clause}
use Rattle.clauses.specs.Entailing.{OnLines, computed_follows}
use Rattle.stack.specs.Stack.{Stands}
use Rattle.stack.specs.House.{Agrees, Named}

module _ (clauses : List Clause) (sense : ℕ → Option Clause) (on : OnLines sense) (inner : ℕ) (steps : List Step) (outer asked : ℕ) where
  agrees_from : (s : ℕ) → IsLines s → Stands (clausal atom_count clauses sense) inner steps outer asked s → Agrees clauses sense inner steps outer asked s
  agrees_from s l st = record {
    starts = st.starts;
    has_outer = st.has_outer;
    has_inner = st.has_inner;
    entailed = λ n e. subst (λ x. Has x n) st.left ((computed_follows atom_count clauses sense on s l n).1 (inr e));
    obeys = st.obeys;
  }

  stands_from : (s : ℕ) → IsLines s → Agrees clauses sense inner steps outer asked s → Stands (clausal atom_count clauses sense) inner steps outer asked s
  stands_from s l a = record {
    starts = a.starts;
    has_outer = a.has_outer;
    has_inner = a.has_inner;
    left = same_lines ((clausal atom_count clauses sense).follow s) s
        (λ n h. ⊎_elim (λ k. k) (a.entailed n) ((computed_follows atom_count clauses sense on s l n).0 h))
        (λ n h. (computed_follows atom_count clauses sense on s l n).1 (inl h));
    obeys = a.obeys;
  }

  pub agrees_least : (s : ℕ) → Smallest (Stands (clausal atom_count clauses sense) inner steps outer asked) s → Smallest (Agrees clauses sense inner steps outer asked) s
  agrees_least s f = record {
    lines = f.lines;
    has = agrees_from s f.lines f.has;
    least = λ t l a. f.least t l (stands_from t l a);
  }

-- the names of the layers, line by line
pub named_all : (sense : ℕ → Option Clause) (names inner : ℕ) (steps : List Step) (outer r : ℕ) → SensedLines sense names → r ≡ bit_or (bit_or (bit_or names inner) (lines_of steps)) outer → (n : ℕ) → Exactly (Has r n) (Named sense inner steps outer n)
named_all sense names inner steps outer r sensed e n = (
  λ h. ⊎_elim (λ k. ⊎_elim (λ j. inl (⊎_elim (λ i. inl ((sensed n).0 i)) inr (or_has names inner n j))) (λ j. inr (inl j)) (or_has low (lines_of steps) n k)) (λ k. inr (inr k)) (or_has all outer n (subst (λ x. Has x n) e h)),
  λ h. subst (λ x. Has x n) (sym e) (⊎_elim
      (λ k. or_has_left all outer n (or_has_left low (lines_of steps) n (⊎_elim (λ j. or_has_left names inner n ((sensed n).1 j)) (or_has_right names inner n) k)))
      (⊎_elim (λ k. or_has_left all outer n (or_has_right low (lines_of steps) n k)) (or_has_right all outer n)) h),
)
  where
    low : ℕ
    low = bit_or names inner

    all : ℕ
    all = bit_or low (lines_of steps)
