-- What a full reading of a planner answers, by the calls that led to it.
use Rattle.std.specs.Prelude.{◌≡◌, ℕ, ◌<◌, ◌≤◌, List, [], ◌∷◌, length, take, drop, Option, Result}
use Rattle.sets.specs.Grounds.{Ground, Answered}
use Rattle.sets.specs.declared.refusal.Refusal.{Refusal}
use Rattle.sets.specs.declared.refusal.Refusal.TheVariants.{FactsNameEmpty, BufferTooShort}
use Rattle.facts.specs.Meaning.{Meaning}
use Rattle.book.specs.declared.rows.Rule.{Rule}
use Rattle.laws.specs.World.{World, Event, fresh}
use Rattle.laws.specs.Runs.{Run, RulesTold, NamedEmpty}
use Rattle.laws.specs.Law.{ExactlyMenus, guesses_of}

-- The first `count` places are exactly the menus under the rules that the calls tell, and the other places stay.
pub record MenusRead (m : Meaning) (log : List Event) (before after : List ℕ) (count : ℕ) : Type 0 where
  pub rules : List (Option Rule)
  pub told : RulesTold log (length log) rules
  pub exactly_menus : ExactlyMenus m rules (take count after)
  pub fits : count ≤ length before
  pub same_length : length after ≡ length before
  pub stays : drop count after ≡ drop count before

-- there are more guesses, under the rules that the calls tell, than places
abbrev pub MoreGuesses : List Event → ℕ → Type 0
MoreGuesses log room = (rules : List (Option Rule)) × RulesTold log (length log) rules × (room < guesses_of rules)

abbrev pub menu_grounds : Meaning → List Event → ℕ → List Ground
menu_grounds m log room =
    record { gives = FactsNameEmpty; when = NamedEmpty m log (length log) } ∷ record { gives = BufferTooShort; when = MoreGuesses log room } ∷ []

-- by whatever calls on a new planner led to this one
abbrev pub ReadByCalls : Meaning → World → List ℕ → List ℕ → Result ℕ Refusal → Type 0
ReadByCalls m w before after answer =
    (log : List Event) → Run m (fresh w.number) log w → Answered (menu_grounds m log (length before)) (MenusRead m log before after) (after ≡ before) answer
