-- No number is given twice.
use Rattle.std.proofs.Common.{◌≡◌, ℕ, zero, suc, ◌+◌, ◌<◌, ◌≤◌, List, length, Ok, ap, subst, arith}
use native.Mathlib.Decide.{dec_lt, ℕ_discrete}
use Rattle.facts.specs.Meaning.{Meaning, Lawful}
use Rattle.book.specs.Contents.{Contents}
use Rattle.laws.specs.World.{World, Token, Event, fresh, wrote, held}
use Rattle.laws.specs.Runs.{Run, Call, Change, change}
use Rattle.laws.specs.Law.{InNumbers, Numbers}
use Rattle.laws.proofs.Steps.{moved, next_grows}
use Rattle.laws.proofs.Logs.{call_at, call_below}
use Rattle.laws.proofs.Tracking.{world_start, moves_at, tracked_call}
use Rattle.laws.proofs.Fates.{book_at}

module _ (m : Meaning) (lawful : Lawful m) (number : ℕ) (log : List Event) (after : World) (run : Run m (fresh number) log after) where
  before : ℕ → Contents
  before i = book_at m lawful number log after run i

  -- a number of the book that no change makes less
  module _ (next : Contents → ℕ) (grows : (b : Contents) (c : Change) (words : List ℕ) → next b ≤ next (moved b c words)) where
    grown : (i j : ℕ) → i ≤ j → j ≤ length log → next (before i) ≤ next (before j)
    unfolding before
    grown i zero l up = let same : i ≡ zero = omega arith in subst (λ k. next (before i) ≤ next (before k)) same (omega arith)
    grown i (suc j) l up = elim (ℕ_discrete i (suc j)) [
      | yes same ↦ subst (λ k. next (before i) ≤ next (before k)) same (omega arith)
      | no other ↦
          let c = call_at log j (omega arith) in
          let moves = moves_at m lawful number log after run j c.0 c.1 in
          let rest = grown i j (omega arith) (omega arith) in
          let more = grows (before j) (change c.0) moves.words in
          let here = ap next moves.book_is in
          omega arith
    ]

    -- a call that takes it on by one is the only one that was answered this number
    only : (i j n : ℕ) (e d : Event) → Call log i e → Call log j d → n ≡ next (before i) → next (before (suc i)) ≡ next (before i) + 1 → n ≡ next (before j) → i < j → ⊥
    only i j n e d at_i at_j is more also lt = let up = call_below log j d at_j in let rest = grown (suc i) j (omega arith) (omega arith) in omega arith

    once : (i j n : ℕ) (e d : Event) → Call log i e → Call log j d → n ≡ next (before i) → n ≡ next (before j) → next (before (suc i)) ≡ next (before i) + 1 → next (before (suc j)) ≡ next (before j) + 1 → i ≡ j
    once i j n e d at_i at_j is also more further = elim (dec_lt i j) [
      | yes lt ↦ absurd (only i j n e d at_i at_j is more also lt)
      | no ge ↦ elim (dec_lt j i) [ yes lt ↦ absurd (only j i n d e at_j at_i also further is lt) | no le ↦ omega arith ]
    ]

  of_next : (b : Contents) (c : Change) (words : List ℕ) → b.next ≤ (moved b c words).next
  of_next b c words = (next_grows b c words).0

  of_next_hold : (b : Contents) (c : Change) (words : List ℕ) → b.next_hold ≤ (moved b c words).next_hold
  of_next_hold b c words = (next_grows b c words).1

  -- a write is answered the next number, and a hold the next hold number; each is one higher then
  module _ (i line : ℕ) (words : List ℕ) (n : ℕ) (here : Call log i (wrote line words (Ok n))) where
    written_is : n ≡ (before i).next
    unfolding before
    written_is = (moves_at m lawful number log after run i (wrote line words (Ok n)) here).allowed.1

    written_more : (before (suc i)).next ≡ (before i).next + 1
    unfolding before
    written_more = ap (λ b. b.next) (moves_at m lawful number log after run i (wrote line words (Ok n)) here).book_is

    written_range : InNumbers n
    unfolding before
    written_range =
        let low = (tracked_call m lawful number log after run i (wrote line words (Ok n)) here).sound.from_one in
        let high = (moves_at m lawful number log after run i (wrote line words (Ok n)) here).allowed.0.1.1.1.0 in
        let is = written_is in
        (omega arith, omega (arith, high))

  module _ (i set : ℕ) (hold : Token) (here : Call log i (held set (Ok hold))) where
    held_is : hold.number ≡ (before i).next_hold
    unfolding before
    held_is = ap (λ t. t.number) (moves_at m lawful number log after run i (held set (Ok hold)) here).allowed.1

    held_more : (before (suc i)).next_hold ≡ (before i).next_hold + 1
    unfolding before
    held_more = ap (λ b. b.next_hold) (moves_at m lawful number log after run i (held set (Ok hold)) here).book_is

    held_range : InNumbers hold.number
    unfolding before
    held_range =
        let up = call_below log i (held set (Ok hold)) here in
        let start = ap (λ w. w.book.next_hold) (world_start m lawful number log after run) in
        let low = grown (λ b. b.next_hold) of_next_hold zero i (omega arith) (omega arith) in
        let high = (moves_at m lawful number log after run i (held set (Ok hold)) here).allowed.0.0 in
        let is = held_is in
        (omega arith, omega (arith, high))

  pub numbers_kept : Numbers log
  numbers_kept = record {
    statements = λ i j line other words more n at_i at_j.
        once (λ b. b.next) of_next i j n _ _ at_i at_j (written_is i line words n at_i) (written_is j other more n at_j) (written_more i line words n at_i) (written_more j other more n at_j);
    holds = λ i j set other hold at_i at_j.
        once (λ b. b.next_hold) of_next_hold i j hold.number _ _ at_i at_j (held_is i set hold at_i) (held_is j other hold at_j) (held_more i set hold at_i) (held_more j other hold at_j);
    statement_range = written_range;
    hold_range = held_range;
  }
