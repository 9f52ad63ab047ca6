-- What becomes of a line's number: the line keeps it until it is struck, and then the number never comes back.
use Rattle.std.proofs.Common.{◌≡◌, ℕ, zero, suc, ◌<◌, ◌≤◌, ◌⊎◌, List, length, Some, sym, ap, ◌∙◌, subst, inl, inr, ⊎_elim, arith}
use native.Mathlib.Decide.{ℕ_discrete}
use Rattle.facts.specs.Meaning.{Meaning, Lawful}
use Rattle.book.specs.Contents.{Contents}
use Rattle.book.specs.Calls.{number_at}
use Rattle.laws.specs.World.{World, Event, fresh}
use Rattle.laws.specs.Runs.{Run, Call, change, empties, Struck}
use Rattle.laws.proofs.Steps.{moved, next_grows}
use Rattle.laws.proofs.Logs.{call_same, call_at}
use Rattle.laws.proofs.Telling.{NumberTurns, numbers_turn}
use Rattle.laws.proofs.Tracking.{world_at, moves_at, tracked}

-- Line n had number k after call j: before call i it has it still and was not struck, or it has it no more and was struck.
abbrev pub Fate : List Event → ℕ → ℕ → ℕ → ℕ → Contents → Type 0
Fate log j n k i b = ((number_at b n ≡ Some k) × (Struck log j i n → ⊥)) ⊎ ((number_at b n ≡ Some k → ⊥) × Struck log j i n)

module _ (log : List Event) (j n k i : ℕ) (e : Event) (here : Call log i e) where
  struck_more : Struck log j i n → Struck log j (suc i) n
  struck_more s = record { call = s.call; event = s.event; later = s.later; earlier = omega (arith, s.earlier); here = s.here; did = s.did }

  struck_now : j < i → change e ≡ empties n → Struck log j (suc i) n
  struck_now l did = record { call = i; event = e; later = l; earlier = omega arith; here = here; did = did }

  struck_comes : Struck log j (suc i) n → Struck log j i n ⊎ (change e ≡ empties n)
  struck_comes s = elim (ℕ_discrete s.call i) [
    | yes same ↦ inr (ap change (call_same log i e s.event here (subst (λ x. Call log x s.event) same s.here)) ∙ s.did)
    | no other ↦ inl (record { call = s.call; event = s.event; later = s.later; earlier = omega (arith, s.earlier); here = s.here; did = s.did })
  ]

  fate_more : (b after : Contents) → j < i → NumberTurns n k (change e) b after → Fate log j n k i b → Fate log j n k (suc i) after
  fate_more b after l (inl gone) fate = inr (gone.1, struck_now l gone.0)
  fate_more b after l (inr same) (inl has) = inl (same.1.1 has.0, λ s. ⊎_elim has.1 same.0 (struck_comes s))
  fate_more b after l (inr same) (inr lost) = inr (λ h. lost.0 (same.1.0 h), struck_more lost.1)

module _ (m : Meaning) (lawful : Lawful m) (number : ℕ) (log : List Event) (after : World) (run : Run m (fresh number) log after) where
  -- the book before call i
  abbrev pub book_at : ℕ → Contents
  book_at i = (world_at m lawful number log after run i).book

  -- the fate of a number that was given before
  abbrev pub Carried : ℕ → ℕ → ℕ → ℕ → Type 0
  Carried j n k i = Fate log j n k i (book_at i) × (k < (book_at i).next)

  carried_more : (j n k i : ℕ) → j < i → i < length log → Carried j n k i → Carried j n k (suc i)
  carried_more j n k i l up carried =
      let c = call_at log i up in
      let moves = moves_at m lawful number log after run i c.0 c.1 in
      let sound = (tracked m lawful number log after run i (omega arith)).sound in
      let turns = numbers_turn m (world_at m lawful number log after run i) sound moves.words n k (change c.0) carried.1 moves.allowed in
      let grows = (next_grows (book_at i) (change c.0) moves.words).0 in
      let low = carried.1 in
      subst (λ b. Fate log j n k (suc i) b × (k < b.next)) (sym moves.book_is) (fate_more log j n k i c.0 c.1 (book_at i) (moved (book_at i) (change c.0) moves.words) l turns carried.0, omega arith)

  -- at each later call
  pub carried : (j n k : ℕ) → number_at (book_at (suc j)) n ≡ Some k → k < (book_at (suc j)).next → (i : ℕ) → j < i → i ≤ length log → Carried j n k i
  carried j n k has low zero l up = absurd (omega arith)
  carried j n k has low (suc i) l up = elim (ℕ_discrete i j) [
    | yes same ↦ subst (λ x. Carried j n k (suc x)) (sym same) (inl (has, λ s. omega (arith, s.later, s.earlier)), low)
    | no other ↦ carried_more j n k i (omega arith) (omega arith) (carried j n k has low i (omega arith) (omega arith))
  ]
