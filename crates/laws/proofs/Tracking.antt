-- The worlds between the calls of a run, and what the calls before a call tell of the world at it.
use Rattle.std.proofs.Common.{◌≡◌, ℕ, zero, suc, ◌≤◌, ◌↔◌, List, [], ◌∷◌, length, Some, sym, refl, ap, ◌∙◌, subst, arith}
use Rattle.sets.proofs.Rows.{no_some}
use Rattle.facts.specs.Meaning.{Meaning, Lawful}
use Rattle.book.specs.Rows.{at, Full}
use Rattle.book.specs.Contents.{Contents, empty_book}
use Rattle.book.specs.declared.rows.Rule.{Rule}
use Rattle.book.proofs.Tables.{not_full, empty_at}
use Rattle.laws.specs.World.{World, Token, Event, Step, fresh}
use Rattle.laws.specs.Runs.{Run, Call, change, Written, HasRule, Out, RulesTold}
use Rattle.laws.proofs.Steps.{moved, Moves, moves}
use Rattle.laws.proofs.Logs.{call_below, call_at, since_more, since_none}
use Rattle.laws.proofs.Soundness.{Sound, new_sound, sound_moved}
use Rattle.laws.proofs.Telling.{OutAs, lines_turn, rules_turn, holds_turn}

-- ---- the worlds

-- the world before call i, from the world before the first call on
pub worlds : (m : Meaning) (log : List Event) (w after : World) → Run m w log after → ℕ → World
worlds m log w after run zero = w
worlds m [] w after run (suc i) = w
worlds m (e ∷ log) w after run (suc i) = worlds m log run.0 after run.2 i

steps : (m : Meaning) (log : List Event) (w after : World) (run : Run m w log after) (i : ℕ) (e : Event) → Call log i e → Step m (worlds m log w after run i) e (worlds m log w after run (suc i))
unfolding worlds
steps m [] w after run i e here = absurd here
steps m (x ∷ log) w after run zero e here = subst (λ d. Step m w d run.0) here run.1
steps m (x ∷ log) w after run (suc i) e here = steps m log run.0 after run.2 i e here

-- ---- what the calls tell

-- before call i of these, on a planner with this number, this is the world
pub record Tracked (number : ℕ) (log : List Event) (i : ℕ) (w : World) : Type 0 where
  pub sound : Sound w.book
  pub number_is : w.number ≡ number
  pub written : (n : ℕ) → Full w.book.lines n ↔ Written log i n
  pub rules : (p : ℕ) (r : Rule) → at w.book.rules p ≡ Some r ↔ HasRule log i p r
  pub holds : (t : Token) (s : ℕ) → OutAs w.number t s (w.book.holds t.number) ↔ Out log i t s

tracked_new : (number : ℕ) (log : List Event) → Tracked number log zero (fresh number)
tracked_new number log = record {
  sound = new_sound;
  number_is = refl;
  written = λ n. (λ full. absurd (not_full empty_book.lines n (empty_at 64 n) full), λ s. absurd (since_none log s));
  rules = λ p r. (λ e. absurd (no_some (sym (empty_at 40 p) ∙ e)), λ s. absurd (since_none log s));
  holds = λ t s. (λ e. absurd (no_some e.1), λ k. absurd (since_none log k));
}

world : ℕ → Contents → World
world number book = record { number = number; book = book }

tracked_more : (m : Meaning) → Lawful m → (number : ℕ) (log : List Event) (i : ℕ) (w after : World) (e : Event) → Call log i e → Moves m w (change e) after → Tracked number log i w → Tracked number log (suc i) after
unfolding world
tracked_more m lawful number log i w after e here moves t = subst (Tracked number log (suc i)) (sym same) (record {
  sound = sound_moved m lawful w t.sound (change e) moves.words moves.allowed;
  number_is = t.number_is;
  written = λ n. since_more log i e here _ _ (t.written n) (lines_turn m w t.sound moves.words n (change e) moves.allowed);
  rules = λ p r. since_more log i e here _ _ (t.rules p r) (rules_turn m w t.sound moves.words p r (change e) moves.allowed);
  holds = λ k s. since_more log i e here _ _ (t.holds k s) (holds_turn m w t.sound moves.words k s (change e) moves.allowed);
})
  where
    same : after ≡ world w.number (moved w.book (change e) moves.words)
    same = ap (λ n. world n after.book) moves.number_stays ∙ ap (world w.number) moves.book_is

module _ (m : Meaning) (lawful : Lawful m) (number : ℕ) (log : List Event) (after : World) (run : Run m (fresh number) log after) where
  -- the world before call i, and after the last call
  abbrev pub world_at : ℕ → World
  world_at i = worlds m log (fresh number) after run i

  pub world_start : world_at zero ≡ fresh number
  unfolding worlds
  world_start = refl

  pub step_at : (i : ℕ) (e : Event) → Call log i e → Step m (world_at i) e (world_at (suc i))
  step_at i e here = steps m log (fresh number) after run i e here

  -- each call moves the world as its change says
  pub moves_at : (i : ℕ) (e : Event) → Call log i e → Moves m (world_at i) (change e) (world_at (suc i))
  moves_at i e here = moves m (world_at i) (world_at (suc i)) e (step_at i e here)

  pub tracked : (i : ℕ) → i ≤ length log → Tracked number log i (world_at i)
  tracked zero l = subst (Tracked number log zero) (sym world_start) (tracked_new number log)
  tracked (suc i) l =
      let c = call_at log i (omega arith) in
      tracked_more m lawful number log i (world_at i) (world_at (suc i)) c.0 c.1 (moves_at i c.0 c.1) (tracked i (omega arith))

  pub tracked_call : (i : ℕ) (e : Event) → Call log i e → Tracked number log i (world_at i)
  tracked_call i e here = let l = call_below log i e here in tracked i (omega arith)

  -- the calls tell the rules of the world
  pub rules_told : (i : ℕ) → i ≤ length log → RulesTold log i (world_at i).book.rules
  rules_told i l = let t = tracked i l in record { told = λ p r. (t.rules p r).1; only = λ p r. (t.rules p r).0 }
