-- Lists of calls: which call stands where, and what the calls before a call tell, one call on.
use Rattle.std.proofs.Common.{◌≡◌, ℕ, zero, suc, ◌<◌, ◌⊎◌, ◌↔◌, List, [], ◌∷◌, length, sym, refl, ◌∙◌, subst, inl, inr, ⊎_elim, arith}
use native.Mathlib.Decide.{ℕ_discrete}
use Rattle.laws.specs.World.{Event}
use Rattle.laws.specs.Runs.{Call, Change, change, Since}

-- only one call has a number
pub call_same : (log : List Event) (i : ℕ) (e d : Event) → Call log i e → Call log i d → e ≡ d
call_same [] i e d a b = absurd a
call_same (x ∷ log) zero e d a b = sym a ∙ b
call_same (x ∷ log) (suc i) e d a b = call_same log i e d a b

-- the calls are those with numbers below the length
pub call_below : (log : List Event) (i : ℕ) (e : Event) → Call log i e → i < length log
call_below [] i e a = absurd a
call_below (x ∷ log) zero e a = omega arith
call_below (x ∷ log) (suc i) e a = let l = call_below log i e a in omega arith

pub call_at : (log : List Event) (i : ℕ) → i < length log → (e : Event) × Call log i e
call_at [] i l = absurd (omega arith)
call_at (x ∷ log) zero l = (x, refl)
call_at (x ∷ log) (suc i) l = call_at log i (omega arith)

-- ---- what was made and not undone since, one call on

-- P is a fact before a change, and Q that fact after it: Q holds exactly where the change makes it, or P held and the change does not undo it.
pub record Turns (made undone : Change → Type 0) (c : Change) (P Q : Type 0) : Type 0 where
  pub makes : made c → Q
  pub keeps : P → (undone c → ⊥) → Q
  pub comes : Q → made c ⊎ (P × (undone c → ⊥))

module _ {made undone : Change → Type 0} (log : List Event) (i : ℕ) (e : Event) (here : Call log i e) where
  since_made : made (change e) → Since made undone log (suc i)
  since_made did = record { call = i; event = e; earlier = omega arith; here = here; did = did; not_since = λ k d a b c u. omega arith }

  since_kept : Since made undone log i → (undone (change e) → ⊥) → Since made undone log (suc i)
  since_kept s no-undone = record {
    call = s.call;
    event = s.event;
    earlier = omega arith;
    here = s.here;
    did = s.did;
    not_since = λ k d a b c u. elim (ℕ_discrete k i) [
      | yes same ↦ no-undone (subst (λ x. undone (change x)) (call_same log i d e (subst (λ x. Call log x d) same c) here) u)
      | no other ↦ s.not_since k d a (omega arith) c u
    ];
  }

  since_comes : Since made undone log (suc i) → made (change e) ⊎ (Since made undone log i × (undone (change e) → ⊥))
  since_comes s = elim (ℕ_discrete s.call i) [
    | yes same ↦ inl (subst (λ x. made (change x)) (call_same log i s.event e (subst (λ x. Call log x s.event) same s.here) here) s.did)
    | no other ↦ inr (
      record { call = s.call; event = s.event; earlier = omega (arith, s.earlier); here = s.here; did = s.did; not_since = λ k d a b c u. s.not_since k d a (omega arith) c u },
      λ u. s.not_since i e (omega (arith, s.earlier)) (omega arith) here u,
    )
  ]

  -- what holds exactly where it was made and not undone before this call does so before the next
  pub since_more : (P Q : Type 0) → P ↔ Since made undone log i → Turns made undone (change e) P Q → Q ↔ Since made undone log (suc i)
  since_more P Q iff turns = (
    λ q. ⊎_elim since_made (λ k. since_kept (iff.0 k.0) k.1) (turns.comes q),
    λ s. ⊎_elim turns.makes (λ k. turns.keeps (iff.1 k.0) k.1) (since_comes s),
  )

-- before the first call nothing was made
pub since_none : {made undone : Change → Type 0} (log : List Event) → Since made undone log zero → ⊥
since_none log s = omega (arith, s.earlier)
