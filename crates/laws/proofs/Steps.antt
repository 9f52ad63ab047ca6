-- One call as a move of the book: what an accepted call changes, told from its change alone.
use Rattle.std.proofs.Common.{◌≡◌, ℕ, ◌+◌, ◌≤◌, List, [], set, Some, None, Ok, Err, ap, arith}
use Rattle.sets.specs.Grounds.{NoGround}
use Rattle.facts.specs.Meaning.{Meaning}
use Rattle.book.specs.Contents.{Contents}
use Rattle.book.specs.Calls.{write_grounds, strike_grounds, rule_grounds, unrule_grounds}
use Rattle.book.specs.Holds.{with_hold, without_hold}
use Rattle.laws.specs.World.{World, Event, Step, wrote, struck, ruled, unruled, said, sought, stood, listed, held, released, saved, looked, hold_grounds, OutHere}
use Rattle.laws.specs.Runs.{Change, change, fills, empties, adds, removes, takes, returns, nothing}

-- the book after a change; `words` are those of the statement written
abbrev pub moved : Contents → Change → List ℕ → Contents
moved b (fills line number) words = record {
  lines = set b.lines line (Some (record { number = b.next; words = words }));
  rules = b.rules;
  holds = b.holds;
  next = b.next + 1;
  next_hold = b.next_hold;
}
moved b (empties line) words = record {
  lines = set b.lines line None;
  rules = b.rules;
  holds = b.holds;
  next = b.next;
  next_hold = b.next_hold;
}
moved b (adds place rule) words = record {
  lines = b.lines;
  rules = set b.rules place (Some rule);
  holds = b.holds;
  next = b.next;
  next_hold = b.next_hold;
}
moved b (removes place) words = record {
  lines = b.lines;
  rules = set b.rules place None;
  holds = b.holds;
  next = b.next;
  next_hold = b.next_hold;
}
moved b (takes hold lines) words = with_hold b lines
moved b (returns hold) words = without_hold b hold.number
moved b nothing words = b

-- the next numbers only grow
pub next_grows : (b : Contents) (c : Change) (words : List ℕ) → (b.next ≤ (moved b c words).next) × (b.next_hold ≤ (moved b c words).next_hold)
next_grows b (fills line number) words = (omega arith, omega arith)
next_grows b (empties line) words = (omega arith, omega arith)
next_grows b (adds place rule) words = (omega arith, omega arith)
next_grows b (removes place) words = (omega arith, omega arith)
next_grows b (takes hold lines) words = (omega arith, omega arith)
next_grows b (returns hold) words = (omega arith, omega arith)
next_grows b nothing words = (omega arith, omega arith)

-- no ground stood against the change, and the number or hold answered is the next one
abbrev pub Allowed : Meaning → World → Change → List ℕ → Type 0
Allowed m w (fills line number) words = NoGround (write_grounds w.book line words) × (number ≡ w.book.next)
Allowed m w (empties line) words = NoGround (strike_grounds m.names w.book line)
Allowed m w (adds place rule) words = NoGround (rule_grounds w.book place rule)
Allowed m w (removes place) words = NoGround (unrule_grounds w.book place)
Allowed m w (takes hold lines) words = NoGround (hold_grounds m w lines) × (hold ≡ record { planner = w.number; number = w.book.next_hold })
Allowed m w (returns hold) words = (OutHere w hold → ⊥) → ⊥
Allowed m w nothing words = Unit {0}

-- the planner moved from one world to the next by this change
pub record Moves (m : Meaning) (w : World) (c : Change) (after : World) : Type 0 where
  pub number_stays : after.number ≡ w.number
  pub words : List ℕ
  pub allowed : Allowed m w c words
  pub book_is : after.book ≡ moved w.book c words

module _ (m : Meaning) (w after : World) where
  stays : after.number ≡ w.number → after.book ≡ w.book → Moves m w nothing after
  stays n b = record { number_stays = n; words = []; allowed = tt; book_is = b }

  same : after ≡ w → Moves m w nothing after
  same e = stays (ap (λ x. x.number) e) (ap (λ x. x.book) e)

  -- a step moves the world as its change says
  pub moves : (e : Event) → Step m w e after → Moves m w (change e) after
  moves (wrote line words (Ok number)) s = record { number_stays = s.0; words = words; allowed = (s.1.0, s.1.1.0); book_is = s.1.1.1 }
  moves (wrote line words (Err e)) s = stays s.0 s.1.1
  moves (struck line (Ok x)) s = record { number_stays = s.0; words = []; allowed = s.1.0; book_is = s.1.1 }
  moves (struck line (Err e)) s = stays s.0 s.1.1
  moves (ruled place rule (Ok x)) s = record { number_stays = s.0; words = []; allowed = s.1.0; book_is = s.1.1 }
  moves (ruled place rule (Err e)) s = stays s.0 s.1.1
  moves (unruled place (Ok x)) s = record { number_stays = s.0; words = []; allowed = s.1.0; book_is = s.1.1 }
  moves (unruled place (Err e)) s = stays s.0 s.1.1
  moves (said line before buffer answer) s = same s.0
  moves (sought number answer) s = same s.0
  moves (stood lines answer) s = same s.0
  moves (listed from before page answer) s = same s.0
  moves (held lines (Ok hold)) s = record { number_stays = s.0; words = []; allowed = (s.1.0, s.1.1.0); book_is = s.1.1.1 }
  moves (held lines (Err e)) s = stays s.0 s.1.1
  moves (released hold (Ok x)) s = record { number_stays = s.0; words = []; allowed = s.1.0.0.0; book_is = s.1.0.1 }
  moves (released hold (Err back)) s = stays s.0 s.1.0.1
  moves (saved hold before buffer answer) s = same s.0
  moves (looked bytes answer) s = same s.0
