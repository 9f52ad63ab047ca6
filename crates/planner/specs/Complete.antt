-- All the menus of a planner, read into a buffer.
use Rattle.std.specs.Prelude.{◌≡◌, ℕ, ◌+◌, ◌<◌, ◌≤◌, List, [], ◌∷◌, ◌++◌, length, take, drop, Result, IfOk, slice_index}
use Rattle.sets.specs.Grounds.{Ground, Answered}
use Rattle.sets.specs.declared.refusal.Refusal.{Refusal}
use Rattle.sets.specs.declared.refusal.Refusal.TheVariants.{BufferTooShort}
use Rattle.facts.specs.Meaning.{Meaning}
use Rattle.laws.specs.Menus.{Before}
use Rattle.laws.specs.World.{World, Event, Offers, rules_of, guesses, guessed_of, facts_ground}
use Rattle.laws.specs.Runs.{Run, Call, change, nothing}
use Rattle.laws.specs.Law.{Part, Chained, ExactlyMenus, joined_pages}

-- The sets stand behind the first `count` places; r places are filled then, and the others stay.
pub record Added (before : List ℕ) (count : ℕ) (sets after : List ℕ) (r : ℕ) : Type 0 where
  pub filled : r ≡ count + length sets
  pub same_length : length after ≡ length before
  pub front : take r after ≡ take count before ++ sets
  pub stays : drop r after ≡ drop r before

-- A reading that was made, by lists that left the planner as it was: the first from the guess `from`, each later one from where the one before
-- it stopped, and the last stopped at `end`. The sets are their joined pages.
pub record Read (m : Meaning) (w : World) (from end : ℕ) (sets : List ℕ) : Type 0 where
  pub lists : List Event
  pub run : Run m w lists w
  pub unchanged : (i : ℕ) (e : Event) → Call lists i e → change e ≡ nothing
  pub parts : List Part
  pub chained : Chained lists 0 from parts end
  pub pages : sets ≡ joined_pages parts

abbrev pub FullReading : Meaning → World → List ℕ → Type 0
FullReading m w sets = Read m w 0 (guesses w) sets

-- The places filled are exactly the menus, as the law has it, and are the joined pages of a full reading.
pub record ByLists (m : Meaning) (w : World) (after : List ℕ) (count : ℕ) : Type 0 where
  pub exactly_menus : ExactlyMenus m (rules_of w) (take count after)
  pub reading : FullReading m w (take count after)

abbrev pub ReadByLists : Meaning → World → List ℕ → Result ℕ Refusal → Type 0
ReadByLists m w after answer = IfOk answer (ByLists m w after)

-- The first `count` places are exactly the menus, in order and so each once, and the other places stay.
pub record Complete (m : Meaning) (w : World) (before after : List ℕ) (count : ℕ) : Type 0 where
  pub each : (i : ℕ) → i < count → Offers m w (slice_index after i)
  pub every : (s : ℕ) → Offers m w s → (i : ℕ) × (i < count) × (slice_index after i ≡ s)
  pub ordered : (i j : ℕ) → i < j → j < count → Before (guessed_of w) (slice_index after i) (slice_index after j)
  pub fits : count ≤ length before
  pub same_length : length after ≡ length before
  pub stays : drop count after ≡ drop count before

-- refused if the facts name an empty line, then if the buffer has fewer places than there are guesses
abbrev pub reading_grounds : Meaning → World → ℕ → List Ground
reading_grounds m w room = facts_ground m w ∷ record { gives = BufferTooShort; when = room < guesses w } ∷ []

abbrev pub ReadAll : Meaning → World → List ℕ → List ℕ → Result ℕ Refusal → Type 0
ReadAll m w before after answer = Answered (reading_grounds m w (length before)) (Complete m w before after) (after ≡ before) answer
