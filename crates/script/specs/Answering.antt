-- What one line of a script is answered, and what the session is then.
use Rattle.std.specs.Prelude.{◌≡◌, ℕ, ◌<◌, ◌≤◌, ◌⊎◌, List, ◌++◌, length, drop, Ok, Err, Result, ◌≢◌}
use Rattle.sets.specs.declared.refusal.Refusal.{Refusal}
use Rattle.sets.specs.declared.refusal.Refusal.TheVariants.{BufferTooShort}
use Rattle.planner.specs.View.{view}
use Rattle.laws.specs.World.{guesses, wrote, struck, ruled, unruled}
use Rattle.laws.specs.declared.listing.Listing as listing
use Rattle.planner.specs.declared.planner.Planner.{Planner}
use Rattle.script.specs.Calls.{ScriptFacts, Begun, Started, Stepped, Called, Listed}
use Rattle.script.specs.Menus.{listed_text}
use Rattle.script.specs.Reading.{Fit, request_text}
use Rattle.script.specs.Texts.{bad_text, done_text, no_text, written_text}
use Rattle.script.specs.Writing.{Prints}
use Rattle.script.specs.declared.printer.Printer.{Printer}
use Rattle.script.specs.declared.request.Request.{Request}
use Rattle.script.specs.declared.request.Request.TheVariants.{Step, Write, Strike, Rule, Unrule, List as Listing}
use Rattle.script.specs.declared.session.Session.{Session}
use Rattle.script.specs.declared.session.State.{State}
use Rattle.script.specs.declared.session.State.TheVariants.{Collecting, Planning}

-- the text for a page that was listed, or for a refusal
abbrev pub page_text : Planner ScriptFacts → List ℕ → Result listing.Listing Refusal → List ℕ
page_text planner page (Ok found) = listed_text (view planner).book page found.count found.next (guesses (view planner))
page_text planner page (Err why) = no_text why

-- The text that a planner answers to a list line.
pub record Pages (planner : Planner ScriptFacts) (from : ℕ) (text : List ℕ) : Type 0 where
  pub page : List ℕ
  pub result : Result listing.Listing Refusal
  pub full : length page ≡ 16
  pub call : Listed planner from page result
  pub says : text ≡ page_text planner page result

-- The text that a planner answers to a request, and the planner after it. A step comes too late.
abbrev pub Plans : Planner ScriptFacts → ℕ → Request → Planner ScriptFacts → List ℕ → Type 0
Plans was place (Step needs gives) is text = (is ≡ was) × (text ≡ bad_text place)
Plans was place (Write line words) is text = (r : Result ℕ Refusal) × Called was (wrote line words.now r) is × (text ≡ written_text r)
Plans was place (Strike line) is text = (r : Result (Unit {0}) Refusal) × Called was (struck line r) is × (text ≡ done_text r)
Plans was place (Rule at needs unless gives) is text =
    (r : Result (Unit {0}) Refusal) × Called was (ruled at (record { needs = needs; unless = unless; gives = gives }) r) is × (text ≡ done_text r)
Plans was place (Unrule at) is text = (r : Result (Unit {0}) Refusal) × Called was (unruled at r) is × (text ≡ done_text r)
Plans was place (Listing from) is text = (is ≡ was) × Pages was from text

-- The planner is made of the facts, and then asked.
pub record Starts (number : ℕ) (facts : ScriptFacts) (place : ℕ) (request : Request) (is : State) (text : List ℕ) : Type 0 where
  pub fresh : Planner ScriptFacts
  pub planner : Planner ScriptFacts
  pub made : Started number facts fresh
  pub asked : Plans fresh place request planner text
  pub state : is ≡ Planning planner

-- The text that a session answers to a request, and its state after it: steps until the first other request.
abbrev pub Asks : ℕ → State → ℕ → Request → State → List ℕ → Type 0
Asks number (Collecting facts) place (Step needs gives) is text =
    (after : ScriptFacts) × (r : Result (Unit {0}) Refusal) × Stepped facts needs gives after r × (is ≡ Collecting after) × (text ≡ done_text r)
Asks number (Collecting facts) place (Write line words) is text = Starts number facts place (Write line words) is text
Asks number (Collecting facts) place (Strike line) is text = Starts number facts place (Strike line) is text
Asks number (Collecting facts) place (Rule at needs unless gives) is text = Starts number facts place (Rule at needs unless gives) is text
Asks number (Collecting facts) place (Unrule at) is text = Starts number facts place (Unrule at) is text
Asks number (Collecting facts) place (Listing from) is text = Starts number facts place (Listing from) is text
Asks number (Planning was) place request is text = (planner : Planner ScriptFacts) × Plans was place request planner text × (is ≡ Planning planner)

abbrev pub SessionAsks : Session → ℕ → Request → Session → List ℕ → Type 0
SessionAsks was place request is text =
    (is.number ≡ was.number) × Asks was.number was.state place request is.state text

-- A session at a script's start.
pub record Opens (number : ℕ) (is : Session) : Type 0 where
  pub facts : ScriptFacts
  pub begun : Begun facts
  pub numbered : is.number ≡ number
  pub state : is.state ≡ Collecting facts

-- A text that is so was printed, and the least room fits it.
pub record Said (So : List ℕ → Type 0) (was is : Printer) : Type 0 where
  pub text : List ℕ
  pub so : So text
  pub short : length text ≤ 32768
  pub printed : Prints was text is

-- The answer to a line that begins at the place: to the request whose text it is, or to a bad line, which alters nothing.
abbrev pub LineAnswer : Session → List ℕ → ℕ → Session → List ℕ → Type 0
LineAnswer was line place is text =
    ((request : Request) × Fit request × (line ≡ request_text request) × SessionAsks was place request is text)
    ⊎ (((request : Request) → Fit request → line ≢ request_text request) × (is ≡ was) × (text ≡ bad_text place))

-- The answer stands at the buffer's start, and the rest of the buffer stays.
pub record Given (was : Session) (line : List ℕ) (place : ℕ) (is : Session) (before after : List ℕ) (end : ℕ) : Type 0 where
  pub room : 32768 ≤ length before
  pub text : List ℕ
  pub answer : LineAnswer was line place is text
  pub ends : end ≡ length text
  pub inside : end ≤ length before
  pub size : length after ≡ length before
  pub bytes : after ≡ text ++ drop end before

-- A buffer under 32,768 bytes is refused, and nothing changes.
pub record Refused (was is : Session) (before after : List ℕ) (why : Refusal) : Type 0 where
  pub short : length before < 32768
  pub ground : why ≡ BufferTooShort
  pub same : is ≡ was
  pub bytes : after ≡ before

abbrev pub AnswersLine : Session → List ℕ → ℕ → Session → List ℕ → List ℕ → Result ℕ Refusal → Type 0
AnswersLine was line place is before after (Ok end) = Given was line place is before after end
AnswersLine was line place is before after (Err why) = Refused was is before after why
