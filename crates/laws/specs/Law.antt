-- The law: what is certain of every list of calls on a new planner.
use Rattle.std.specs.Prelude.{◌≡◌, ℕ, ◌+◌, ◌^◌, ◌<◌, ◌≤◌, List, [], ◌∷◌, length, take, Ok, Err, Option, Result, count_ones, slice_index}
use Rattle.std.specs.List.{flat_map}
use Rattle.sets.specs.Sets.{Has, Within}
use Rattle.sets.specs.declared.refusal.Refusal.{Refusal}
use Rattle.sets.specs.declared.refusal.Refusal.TheVariants.{Held}
use Rattle.facts.specs.Meaning.{Meaning}
use Rattle.record.specs.declared.fault.Fault.{Fault}
use Rattle.book.specs.Rows.{unless_lines}
use Rattle.book.specs.Kept.{last_number}
use Rattle.book.specs.declared.rows.Rule.{Rule}
use Rattle.laws.specs.Menus.{Offered, Before}
use Rattle.laws.specs.World.{World, Token, Event, fresh, wrote, struck, listed, held, saved, looked}
use Rattle.laws.specs.Runs.{Run, Call, change, ToPlace, Out, Struck, RulesTold, NamedEmpty}
use Rattle.laws.specs.declared.listing.Listing.{Listing}
use Rattle.laws.specs.declared.looked.Looked.{Looked}

-- how many guesses there are under these rules
abbrev pub guesses_of : List (Option Rule) → ℕ
guesses_of rules = 2 ^ count_ones (unless_lines rules)

-- ---- full readings

-- one list of a reading: which call it is, where it starts, its page before and after, and its answer
pub record Part : Type 0 where
  pub call : ℕ
  pub from : ℕ
  pub before : List ℕ
  pub after : List ℕ
  pub answer : Listing

-- Accepted lists, each on a page of one place or more and after the one before it: the first from `from`, each later one from the next that
-- the one before it answered; the last answered `end`.
abbrev pub Chained : List Event → ℕ → ℕ → List Part → ℕ → Type 0
Chained log least from [] end = from ≡ end
Chained log least from (p ∷ ps) end =
    (least ≤ p.call)
    × (p.from ≡ from)
    × (1 ≤ length p.before)
    × Call log p.call (listed p.from p.before p.after (Ok p.answer))
    × Chained log (p.call + 1) p.answer.next ps end

-- the number of the last call of a reading
abbrev pub last_call : Part → List Part → ℕ
last_call p [] = p.call
last_call p (q ∷ ps) = last_call q ps

-- no rule and no unrule was accepted from call i to call j
abbrev pub RulesStay : List Event → ℕ → ℕ → Type 0
RulesStay log i j = (k place : ℕ) (e : Event) → i ≤ k → k ≤ j → Call log k e → ToPlace place (change e) → ⊥

-- the places written, in the order of the calls
abbrev pub joined_pages : List Part → List ℕ
joined_pages parts = flat_map (λ p. take p.answer.count p.after) parts

-- these sets are exactly the menus under the rules, each once, in order
pub record ExactlyMenus (m : Meaning) (rules : List (Option Rule)) (sets : List ℕ) : Type 0 where
  pub each : (i : ℕ) → i < length sets → Offered m rules (slice_index sets i)
  pub every : (s : ℕ) → Offered m rules s → (i : ℕ) × (i < length sets) × (slice_index sets i ≡ s)
  pub ordered : (i j : ℕ) → i < j → j < length sets → Before (unless_lines rules) (slice_index sets i) (slice_index sets j)
  pub empty : sets ≡ [] → (s : ℕ) → Offered m rules s → ⊥
  pub none : ((s : ℕ) → Offered m rules s → ⊥) → sets ≡ []
  pub apart : (s t : ℕ) → Offered m rules s → Offered m rules t → Within s t → s ≡ t

-- ---- the promises

pub record Pages (m : Meaning) (log : List Event) : Type 0 where
  -- at each moment the calls tell which rules there are
  pub told : (i : ℕ) → i ≤ length log → (rules : List (Option Rule)) × RulesTold log i rules
  -- from at most T, list is refused only when the facts name an empty line
  pub refused : (i from : ℕ) (before after : List ℕ) (e : Refusal) (rules : List (Option Rule))
      → Call log i (listed from before after (Err e)) → RulesTold log i rules → from ≤ guesses_of rules → NamedEmpty m log i
  -- accepted from below T, with a place on its page, it answers a next above its from
  pub rises : (i from : ℕ) (before after : List ℕ) (answer : Listing) (rules : List (Option Rule))
      → Call log i (listed from before after (Ok answer)) → RulesTold log i rules → from < guesses_of rules → 1 ≤ length before → from < answer.next
  -- the joined pages of a full reading, with no rule or unrule accepted during it, are exactly the menus
  pub exact : (first : Part) (rest : List Part) (rules : List (Option Rule))
      → RulesTold log first.call rules → Chained log 0 0 (first ∷ rest) (guesses_of rules) → RulesStay log first.call (last_call first rest)
      → ExactlyMenus m rules (joined_pages (first ∷ rest))

-- a look, at call i, at what was saved of these lines at call j: accepted, with the lines not struck since as current and the others as gone
abbrev pub ReadRight : List Event → ℕ → ℕ → ℕ → Result Looked Fault → Type 0
ReadRight log j i set (Ok found) =
    ((n : ℕ) → Has found.current n → Has set n × (Struck log j i n → ⊥))
    × ((n : ℕ) → Has set n → (Struck log j i n → ⊥) → Has found.current n)
    × ((n : ℕ) → Has found.gone n → Has set n × Struck log j i n)
    × ((n : ℕ) → Has set n → Struck log j i n → Has found.gone n)
ReadRight log j i set (Err fault) = ⊥

pub record Records (log : List Event) : Type 0 where
  -- what is saved is a hold that is out
  pub out : (j : ℕ) (hold : Token) (before after : List ℕ) (count : ℕ)
      → Call log j (saved hold before after (Ok count)) → (set : ℕ) × Out log j hold set
  -- the bytes saved, looked at later, are read right
  pub kept : (j i : ℕ) (hold : Token) (set : ℕ) (before after : List ℕ) (count : ℕ) (answer : Result Looked Fault)
      → Call log j (saved hold before after (Ok count)) → Out log j hold set → j < i → Call log i (looked (take count after) answer)
      → ReadRight log j i set answer

-- a strike answers 6 exactly when a hold that is out has the line asked for
pub record Strikes (log : List Event) : Type 0 where
  pub refused : (i line : ℕ) → Call log i (struck line (Err Held)) → (hold : Token) × (set : ℕ) × Out log i hold set × Has set line
  pub out : (i line : ℕ) (answer : Result (Unit {0}) Refusal) (hold : Token) (set : ℕ)
      → Call log i (struck line answer) → Out log i hold set → Has set line → answer ≡ Err Held

-- a number from 1 on and at most the last
abbrev pub InNumbers : ℕ → Type 0
InNumbers n = (1 ≤ n) × (n ≤ last_number)

-- no number is given twice, to statements or to holds
pub record Numbers (log : List Event) : Type 0 where
  pub statements : (i j line other : ℕ) (words more : List ℕ) (number : ℕ)
      → Call log i (wrote line words (Ok number)) → Call log j (wrote other more (Ok number)) → i ≡ j
  pub holds : (i j set other : ℕ) (hold : Token) → Call log i (held set (Ok hold)) → Call log j (held other (Ok hold)) → i ≡ j
  pub statement_range : (i line : ℕ) (words : List ℕ) (number : ℕ) → Call log i (wrote line words (Ok number)) → InNumbers number
  pub hold_range : (i set : ℕ) (hold : Token) → Call log i (held set (Ok hold)) → InNumbers hold.number

pub record Keeps (m : Meaning) (log : List Event) : Type 0 where
  pub pages : Pages m log
  pub records : Records log
  pub strikes : Strikes log
  pub numbers : Numbers log

-- Of every list of calls on a new planner with this number, whatever holds are brought.
abbrev pub Law : Meaning → ℕ → Type 0
Law m number = (log : List Event) (after : World) → Run m (fresh number) log after → Keeps m log
