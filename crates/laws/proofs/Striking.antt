-- A strike is refused for a hold exactly when a hold that is out has the line.
use Rattle.std.proofs.Common.{◌≡◌, ℕ, ◌<◌, List, Ok, Err, Result, refl, ap, ⊎_elim, arith}
use Rattle.sets.specs.Grounds.{FirstGround, number_of}
use Rattle.sets.specs.declared.refusal.Refusal.{Refusal}
use Rattle.sets.specs.declared.refusal.Refusal.TheVariants.{Held}
use Rattle.facts.specs.Meaning.{Meaning, Lawful}
use Rattle.book.specs.Rows.{Full}
use Rattle.book.specs.Contents.{Contents}
use Rattle.book.specs.Calls.{IsHeld, Strike, strike_grounds}
use Rattle.book.proofs.Tables.{full_below}
use Rattle.laws.specs.World.{World, Token, Event, fresh}
use Rattle.laws.specs.Runs.{Run}
use Rattle.laws.specs.Law.{Strikes}
use Rattle.laws.proofs.Tracking.{Tracked, world_at, step_at, tracked_call}

module _ (named : ℕ) (c : Contents) (line : ℕ) where
  -- refused with 6, a hold has the line
  held_from_refused : FirstGround (strike_grounds named c line) Held → IsHeld c line
  held_from_refused =
      ⊎_elim (λ a. absurd (omega (arith, ap number_of a.1))) (λ r.
      ⊎_elim (λ a. absurd (omega (arith, ap number_of a.1))) (λ s.
      ⊎_elim (λ a. a.0) (λ t.
      ⊎_elim (λ a. absurd (omega (arith, ap number_of a.1))) (λ u. absurd u.1) t.1) s.1) r.1)

  -- with a hold on the line, it is refused with 6
  refused_from_held : line < 64 → Full c.lines line → IsHeld c line → (answer : Result (Unit {0}) Refusal) (after : Contents) → Strike named c line answer after → answer ≡ Err Held
  refused_from_held low full is_held_lem (Ok x) after s = absurd (s.0.1.1.0 is_held_lem)
  refused_from_held low full is_held_lem (Err e) after s =
      ⊎_elim (λ a. absurd (omega (arith, a.0))) (λ r.
      ⊎_elim (λ a. absurd (a.0 full)) (λ t.
      ⊎_elim (λ a. ap Err a.1) (λ u. absurd (u.0 is_held_lem)) t.1) r.1) s.0

module _ (m : Meaning) (lawful : Lawful m) (number : ℕ) (log : List Event) (after : World) (run : Run m (fresh number) log after) where
  pub strikes_kept : Strikes log
  strikes_kept = record {
    refused = λ i line here.
        let w : World = world_at m lawful number log after run i in
        let t : Tracked number log i w = tracked_call m lawful number log after run i _ here in
        let h : IsHeld w.book line = held_from_refused m.names w.book line (step_at m lawful number log after run i _ here).1.0 in
        let hold : Token = record { planner = w.number; number = h.0 } in
        (hold, h.1.lines, (t.holds hold h.1.lines).0 (refl, h.2), h.3);
    out = λ i line answer hold set here out has.
        let w : World = world_at m lawful number log after run i in
        let t : Tracked number log i w = tracked_call m lawful number log after run i _ here in
        let o = ((t.holds hold set).1 out).1 in
        let full = (t.sound.held hold.number _ o).written line has in
        let lines_are = t.sound.lines_are in
        let below = full_below w.book.lines line full in
        refused_from_held m.names w.book line (omega arith) full (hold.number, _, o, has) answer _ (step_at m lawful number log after run i _ here).1;
  }
