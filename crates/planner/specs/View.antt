-- How a planner and its holds are seen.
use Rattle.std.specs.Prelude.{◌≡◌, Ok, Err, Result}
use Rattle.sets.specs.declared.refusal.Refusal.{Refusal}
use Rattle.book.specs.View.{view as book-view}
use Rattle.book.specs.declared.book.Book.{Book}
use Rattle.facts.specs.Meaning.{Meaning}
use Rattle.laws.specs.World.{World, Event, Step, Token, Returned}
use Rattle.planner.specs.declared.planner.Planner.{Planner}
use Rattle.planner.specs.declared.planner.Hold.{Hold}
use Rattle.planner.specs.declared.planner.HandedBack.{HandedBack}

-- the facts that a planner owns
abbrev pub facts_of : {F : Type 0} → Planner F → F
facts_of p = p.facts

-- its book, as the code has it
abbrev pub book_of : {F : Type 0} → Planner F → Book
book_of p = p.book

abbrev pub view : {F : Type 0} → Planner F → World
view p = record { number = p.number; book = book-view p.book }

-- a hold, and the answers that have one
abbrev pub token : Hold → Token
token h = record { planner = h.planner; number = h.number }

abbrev pub hold_answer : Result Hold Refusal → Result Token Refusal
hold_answer (Ok h) = Ok (token h)
hold_answer (Err e) = Err e

abbrev pub release_answer : Result (Unit {0}) HandedBack → Result (Unit {0}) Returned
release_answer (Ok x) = Ok x
release_answer (Err back) = Err (record { refusal = back.refusal; hold = token back.hold })

-- the call took the planner from before to after as the law says, and its facts are the same
pub record Does {F : Type 0} (meaning : F → Meaning) (before : Planner F) (call : Event) (after : Planner F) : Type 0 where
  pub step : Step (meaning (facts_of before)) (view before) call (view after)
  pub facts : facts_of after ≡ facts_of before

-- the call was answered as the law says, and left the planner as it was
abbrev pub Tells : {F : Type 0} → (F → Meaning) → Planner F → Event → Type 0
Tells meaning p call = Step (meaning (facts_of p)) (view p) call (view p)
