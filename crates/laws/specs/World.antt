-- The calls on a planner: what each answers, what it writes, and what it leaves.
use Rattle.std.specs.Prelude.{◌≡◌, ℕ, ◌-◌, ◌^◌, ◌<◌, ◌≤◌, Bool, List, [], ◌∷◌, ◌++◌, length, drop, Some, Ok, Err, Decides, Option, Result, ◌≢◌, count_ones, slice_index}
use Rattle.sets.specs.Sets.{Has}
use Rattle.sets.specs.Grounds.{Ground, Answered}
use Rattle.sets.specs.declared.refusal.Refusal.{Refusal}
use Rattle.sets.specs.declared.refusal.Refusal.TheVariants.{NumbersSpent, FactsNameEmpty, FromTooHigh, NoMenu, HoldsFull, NotOut, BufferTooShort}
use Rattle.facts.specs.Meaning.{Meaning}
use Rattle.record.specs.Record.{Good, edition, encode}
use Rattle.record.specs.Faults.{FaultIn}
use Rattle.record.specs.declared.fault.Fault.{Fault}
use Rattle.record.specs.declared.entries.Entry.{Entry}
use Rattle.book.specs.Rows.{Full, AnyVacant, unless_lines}
use Rattle.book.specs.Kept.{last_number}
use Rattle.book.specs.Contents.{Contents, Held, empty_book}
use Rattle.book.specs.Calls.{Write, Strike, PutRule, Unrule, SayWords, Where, number_at}
use Rattle.book.specs.Holds.{most_out, out_count, IsOut, with_hold, without_hold}
use Rattle.book.specs.Saved.{EntriesOf, Lists}
use Rattle.book.specs.declared.rows.Rule.{Rule}
use Rattle.book.specs.declared.rows.Wording.{Wording}
use Rattle.laws.specs.Menus.{Offered, GuessOf, Before}
use Rattle.laws.specs.declared.listing.Listing.{Listing}
use Rattle.laws.specs.declared.looked.Looked.{Looked}

-- a planner as promises speak of it: its number, and what its book holds
pub record World : Type 0 where
  pub number : ℕ
  pub book : Contents

-- a hold as promises speak of it: the number of the planner that answered it, and its hold number
pub record Token : Type 0 where
  pub planner : ℕ
  pub number : ℕ

-- what a refused release answers: the ground, and a hold
pub record Returned : Type 0 where
  pub refusal : Refusal
  pub hold : Token

-- a new planner: its number, and an empty book
abbrev pub fresh : ℕ → World
fresh number = record { number = number; book = empty_book }

-- the rules that menus are made of, and the lines guessed about
abbrev pub rules_of : World → List (Option Rule)
rules_of w = w.book.rules

abbrev pub guessed_of : World → ℕ
guessed_of w = unless_lines w.book.rules

-- how many guesses there are: one for each part of the lines guessed about
abbrev pub guesses : World → ℕ
guesses w = 2 ^ count_ones (guessed_of w)

-- the menus that the planner offers
abbrev pub Offers : Meaning → World → ℕ → Type 0
Offers m w s = Offered m (rules_of w) s

-- A call with its arguments, its answer, and the page or buffer before and after.
pub data Event : Type 0 where
  wrote : (line : ℕ) (words : List ℕ) (answer : Result ℕ Refusal) → Event
  struck : (line : ℕ) (answer : Result (Unit {0}) Refusal) → Event
  ruled : (place : ℕ) (rule : Rule) (answer : Result (Unit {0}) Refusal) → Event
  unruled : (place : ℕ) (answer : Result (Unit {0}) Refusal) → Event
  said : (line : ℕ) (before after : List ℕ) (answer : Result Wording Refusal) → Event
  sought : (number : ℕ) (answer : Option ℕ) → Event
  stood : (set : ℕ) (answer : Result Bool Refusal) → Event
  listed : (from : ℕ) (before after : List ℕ) (answer : Result Listing Refusal) → Event
  held : (set : ℕ) (answer : Result Token Refusal) → Event
  released : (hold : Token) (answer : Result (Unit {0}) Returned) → Event
  saved : (hold : Token) (before after : List ℕ) (answer : Result ℕ Refusal) → Event
  looked : (bytes : List ℕ) (answer : Result Looked Fault) → Event

-- the facts name an empty line
abbrev pub NameEmpty : Meaning → World → Type 0
NameEmpty m w = AnyVacant w.book.lines m.names

abbrev pub facts_ground : Meaning → World → Ground
facts_ground m w = record { gives = FactsNameEmpty; when = NameEmpty m w }

abbrev pub stands_grounds : Meaning → World → List Ground
stands_grounds m w = facts_ground m w ∷ []

-- a list is refused if the facts name an empty line, then if it starts above the number of guesses
abbrev pub list_grounds : Meaning → World → ℕ → List Ground
list_grounds m w from = facts_ground m w ∷ record { gives = FromTooHigh; when = guesses w < from } ∷ []

-- An accepted list from a guess on: it filled `count` places of the page, and answers `next`.
pub record Page (m : Meaning) (w : World) (from : ℕ) (before after : List ℕ) (count next : ℕ) : Type 0 where
  pub rises : from ≤ next
  pub upto : next ≤ guesses w
  -- each place filled is a menu whose guess lies from `from` up to `next`
  pub each : (i : ℕ) → i < count → Offers m w (slice_index after i) × ((g : ℕ) × GuessOf (guessed_of w) (slice_index after i) g × (from ≤ g) × (g < next))
  -- every menu whose guess lies there stands in a place
  pub every : (s g : ℕ) → Offers m w s → GuessOf (guessed_of w) s g → from ≤ g → g < next → (i : ℕ) × (i < count) × (slice_index after i ≡ s)
  -- in order, so each once
  pub ordered : (i j : ℕ) → i < j → j < count → Before (guessed_of w) (slice_index after i) (slice_index after j)
  -- no more places than guesses tried
  pub few : count ≤ next - from
  -- from the end itself it writes nothing
  pub at_end : from ≡ guesses w → (count ≡ 0) × (next ≡ guesses w)
  -- the places behind them stay
  pub fits : count ≤ length before
  pub same_length : length after ≡ length before
  pub stays : drop count after ≡ drop count before
  -- it stops for two reasons only: there is no further guess, or no free place; and then the last guess tried filled the last place
  pub goes_on : count < length before → next ≡ guesses w
  pub no_place : length before ≡ 0 → next ≡ from
  pub full : 0 < count → count ≡ length before → GuessOf (guessed_of w) (slice_index after (count - 1)) (next - 1)

-- the hold is out here: it bears this planner's number, and the hold of its hold number is out
pub record OutHere (w : World) (hold : Token) : Type 0 where
  pub own : hold.planner ≡ w.number
  pub out : IsOut w.book hold.number

abbrev pub hold_grounds : Meaning → World → ℕ → List Ground
hold_grounds m w set =
    record { gives = NumbersSpent; when = last_number < w.book.next_hold }
    ∷ facts_ground m w
    ∷ record { gives = NoMenu; when = Offers m w set → ⊥ }
    ∷ record { gives = HoldsFull; when = most_out ≤ out_count w.book }
    ∷ []

-- the answer is a hold with this planner's number and the next hold number, and it is out from now on
abbrev pub Take : Meaning → World → ℕ → Result Token Refusal → Contents → Type 0
Take m w set answer after =
    Answered (hold_grounds m w set)
    (λ hold. (hold ≡ record { planner = w.number; number = w.book.next_hold }) × (after ≡ with_hold w.book set))
    (after ≡ w.book)
    answer

abbrev pub not_out_ground : World → Token → Ground
not_out_ground w hold = record { gives = NotOut; when = OutHere w hold → ⊥ }

-- accepted, or refused on a ground
abbrev pub verdict : Result (Unit {0}) Returned → Result (Unit {0}) Refusal
verdict (Ok x) = Ok x
verdict (Err back) = Err back.refusal

-- a refusal hands this very hold back
abbrev pub HandsBack : Token → Result (Unit {0}) Returned → Type 0
HandsBack hold (Ok x) = Unit {0}
HandsBack hold (Err back) = back.hold ≡ hold

-- the hold is out no more
abbrev pub Release : World → Token → Result (Unit {0}) Returned → Contents → Type 0
Release w hold answer after =
    Answered (not_out_ground w hold ∷ []) (λ _. after ≡ without_hold w.book hold.number) (after ≡ w.book) (verdict answer)
    × HandsBack hold answer

-- these are the entries of the hold of this number: every line held, with the number that it has now
pub record HoldEntries (c : Contents) (number : ℕ) (es : List Entry) : Type 0 where
  pub held : Held
  pub out : c.holds number ≡ Some held
  pub of : EntriesOf c held.lines es
  pub whole : (n : ℕ) → Has held.lines n → Full c.lines n

-- the hold's record does not fit a buffer of this length
abbrev pub RecordTooLong : Contents → ℕ → ℕ → Type 0
RecordTooLong c number room = (es : List Entry) × HoldEntries c number es × (room < length (encode edition es))

abbrev pub save_grounds : World → Token → ℕ → List Ground
save_grounds w hold room =
    not_out_ground w hold ∷ record { gives = BufferTooShort; when = RecordTooLong w.book hold.number room } ∷ []

-- the hold's record stands at the buffer's start, the rest of the buffer stays, and the answer is the record's length
pub record Recorded (c : Contents) (number : ℕ) (before after : List ℕ) (count : ℕ) : Type 0 where
  pub entries : List Entry
  pub of_hold : HoldEntries c number entries
  pub length_is : count ≡ length (encode edition entries)
  pub bytes : after ≡ encode edition entries ++ drop count before

abbrev pub Save : World → Token → List ℕ → List ℕ → Result ℕ Refusal → Type 0
Save w hold before after answer =
    Answered (save_grounds w hold (length before)) (Recorded w.book hold.number before after) (after ≡ before) answer

-- Each entry's line is in one of two sets: in `current` if it has that very number now, else in `gone`.
pub record Parted (c : Contents) (es : List Entry) (current gone : ℕ) : Type 0 where
  pub still : (n : ℕ) → Has current n → (k : ℕ) × Lists es n k × (number_at c n ≡ Some k)
  pub still_in : (n k : ℕ) → Lists es n k → number_at c n ≡ Some k → Has current n
  pub past : (n : ℕ) → Has gone n → (k : ℕ) × Lists es n k × (number_at c n ≢ Some k)
  pub past_in : (n k : ℕ) → Lists es n k → (number_at c n ≢ Some k) → Has gone n

-- the bytes are the record of entries that may stand in one, and these are parted
pub record Sorted (c : Contents) (bytes : List ℕ) (current gone : ℕ) : Type 0 where
  pub entries : List Entry
  pub good : Good c.next entries
  pub bytes_are : bytes ≡ encode edition entries
  pub parted : Parted c entries current gone

-- accepted, its lines are sorted; else the bytes have the fault
abbrev pub Look : Contents → List ℕ → Result Looked Fault → Type 0
Look c bytes (Ok found) = Sorted c bytes found.current found.gone
Look c bytes (Err fault) = FaultIn c.next bytes fault

-- the call took the planner from one world to the next, over facts that mean m
abbrev pub Step : Meaning → World → Event → World → Type 0
Step m w (wrote line words answer) after = (after.number ≡ w.number) × Write w.book line words answer after.book
Step m w (struck line answer) after = (after.number ≡ w.number) × Strike m.names w.book line answer after.book
Step m w (ruled place rule answer) after = (after.number ≡ w.number) × PutRule w.book place rule answer after.book
Step m w (unruled place answer) after = (after.number ≡ w.number) × Unrule w.book place answer after.book
Step m w (said line before buffer answer) after = (after ≡ w) × SayWords w.book line before buffer answer
Step m w (sought number answer) after = (after ≡ w) × Where w.book number answer
Step m w (stood set answer) after =
    (after ≡ w) × Answered (stands_grounds m w) (λ yes. Decides yes (Offers m w set)) (Unit {0}) answer
Step m w (listed from before page answer) after =
    (after ≡ w) ×
    Answered (list_grounds m w from)
    (λ l. Page m w from before page l.count l.next)
    (page ≡ before)
    answer
Step m w (held set answer) after = (after.number ≡ w.number) × Take m w set answer after.book
Step m w (released hold answer) after = (after.number ≡ w.number) × Release w hold answer after.book
Step m w (saved hold before buffer answer) after = (after ≡ w) × Save w hold before buffer answer
Step m w (looked bytes answer) after = (after ≡ w) × Look w.book bytes answer
