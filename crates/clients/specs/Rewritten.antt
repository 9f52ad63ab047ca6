-- A line that is struck and written again.
use Rattle.std.specs.Prelude.{◌≡◌, ℕ, ◌⊎◌, List, [], ◌∷◌, take, Ok, Err, Result}
use Rattle.sets.specs.declared.refusal.Refusal.{Refusal}
use Rattle.sets.specs.declared.refusal.Refusal.TheVariants.{BadWords}
use Rattle.facts.specs.Meaning.{bare}
use Rattle.record.specs.declared.fault.Fault.{Fault}
use Rattle.book.specs.Calls.{GoodWords}
use Rattle.book.specs.declared.rows.Rule.{Rule}
use Rattle.laws.specs.World.{World, Token, Returned, Event, fresh, wrote, struck, ruled, unruled, held, released, saved, looked}
use Rattle.laws.specs.Runs.{Run}
use Rattle.laws.specs.declared.looked.Looked.{Looked}
use Rattle.planner.specs.View.{view}
use Rattle.clients.specs.declared.rewritten.Outcome.{Outcome}

-- line 0, always
abbrev pub gives_line : Rule
gives_line = record { needs = 0; unless = 0; gives = 0 }

-- what the nine calls were passed and answered
pub record Session : Type 0 where
  pub first : List ℕ
  pub first_answer : Result ℕ Refusal
  pub rule_answer : Result (Unit {0}) Refusal
  pub hold_answer : Result Token Refusal
  pub hold : Token
  pub before : List ℕ
  pub after : List ℕ
  pub save_answer : Result ℕ Refusal
  pub count : ℕ
  pub release_answer : Result (Unit {0}) Returned
  pub unrule_answer : Result (Unit {0}) Refusal
  pub strike_answer : Result (Unit {0}) Refusal
  pub second : List ℕ
  pub second_answer : Result ℕ Refusal
  pub look_answer : Result Looked Fault

abbrev pub calls : Session → List Event
calls s =
    wrote 0 s.first s.first_answer
    ∷ ruled 0 gives_line s.rule_answer
    ∷ held 1 s.hold_answer
    ∷ saved s.hold s.before s.after s.save_answer
    ∷ released s.hold s.release_answer
    ∷ unruled 0 s.unrule_answer
    ∷ struck 0 s.strike_answer
    ∷ wrote 0 s.second s.second_answer
    ∷ looked (take s.count s.after) s.look_answer
    ∷ []

-- the nine calls on a new planner, with these words, led to this one; the last looked at what was saved, and found this
pub record Made (first second : List ℕ) (planner : World) (found : Looked) : Type 0 where
  pub session : Session
  pub first_is : session.first ≡ first
  pub second_is : session.second ≡ second
  pub saved_so : session.save_answer ≡ Ok session.count
  pub struck_so : session.strike_answer ≡ Ok tt
  pub looked_so : session.look_answer ≡ Ok found
  pub run : Run bare (fresh 1) (calls session) planner

-- Both are good words; the calls were made, and line 0 is gone and no line is current: it did not turn into the second statement.
-- Or one of the two is not, and the answer is that refusal.
abbrev pub ReadsGone : List ℕ → List ℕ → Result Outcome Refusal → Type 0
ReadsGone first second answer =
    ((o : Outcome) × (answer ≡ Ok o) × GoodWords first × GoodWords second × Made first second (view o.planner) o.found × (o.found ≡ record { current = 0; gone = 1 }))
    ⊎ (((GoodWords first → ⊥) ⊎ (GoodWords second → ⊥)) × (answer ≡ Err BadWords))
