-- Lists of calls on one planner, the first call first: what they tell of it, from the calls and answers alone.
use Rattle.std.specs.Prelude.{◌≡◌, ℕ, zero, suc, ◌<◌, ◌⊎◌, List, [], ◌∷◌, Some, Ok, Err, Option}
use Rattle.sets.specs.Sets.{Has}
use Rattle.facts.specs.Meaning.{Meaning}
use Rattle.book.specs.Rows.{at}
use Rattle.book.specs.declared.rows.Rule.{Rule}
use Rattle.laws.specs.World.{World, Token, Event, Step, wrote, struck, ruled, unruled, said, sought, stood, listed, held, released, saved, looked}

-- the calls, one after the other, took the planner from one world to another
abbrev pub Run : Meaning → World → List Event → World → Type 0
Run m w [] after = after ≡ w
Run m w (e ∷ log) after = (next : World) × Step m w e next × Run m next log after

-- call number i, counted from 0, is e
abbrev pub Call : List Event → ℕ → Event → Type 0
Call [] i e = ⊥
Call (x ∷ log) zero e = x ≡ e
Call (x ∷ log) (suc i) e = Call log i e

-- what a call changed
pub data Change : Type 0 where
  fills : (line number : ℕ) → Change
  empties : (line : ℕ) → Change
  adds : (place : ℕ) (rule : Rule) → Change
  removes : (place : ℕ) → Change
  takes : (hold : Token) (set : ℕ) → Change
  returns : (hold : Token) → Change
  nothing : Change

-- a refused call changed nothing, nor did one that only reads
abbrev pub change : Event → Change
change (wrote line words (Ok number)) = fills line number
change (wrote line words (Err e)) = nothing
change (struck line (Ok x)) = empties line
change (struck line (Err e)) = nothing
change (ruled place rule (Ok x)) = adds place rule
change (ruled place rule (Err e)) = nothing
change (unruled place (Ok x)) = removes place
change (unruled place (Err e)) = nothing
change (said line before after answer) = nothing
change (sought number answer) = nothing
change (stood set answer) = nothing
change (listed from before after answer) = nothing
change (held set (Ok hold)) = takes hold set
change (held set (Err e)) = nothing
change (released hold (Ok x)) = returns hold
change (released hold (Err back)) = nothing
change (saved hold before after answer) = nothing
change (looked bytes answer) = nothing

-- the change is to a rule of this place
abbrev pub ToPlace : ℕ → Change → Type 0
ToPlace place c = ((rule : Rule) × (c ≡ adds place rule)) ⊎ (c ≡ removes place)

-- Before call i: some call made a change of the one kind, and no call after it made one of the other kind.
pub record Since (made undone : Change → Type 0) (log : List Event) (i : ℕ) : Type 0 where
  pub call : ℕ
  pub event : Event
  pub earlier : call < i
  pub here : Call log call event
  pub did : made (change event)
  pub not_since : (k : ℕ) (e : Event) → call < k → k < i → Call log k e → undone (change e) → ⊥

-- Before call i the line has a statement: a write of it was accepted, and no strike of it since.
abbrev pub Written : List Event → ℕ → ℕ → Type 0
Written log i line = Since (λ c. (number : ℕ) × (c ≡ fills line number)) (λ c. c ≡ empties line) log i

-- Before call i the place has this rule: that of its last accepted rule call, and no unrule of it was accepted since.
abbrev pub HasRule : List Event → ℕ → ℕ → Rule → Type 0
HasRule log i place rule = Since (λ c. c ≡ adds place rule) (ToPlace place) log i

-- Before call i this hold, on these lines, is out: it was answered, and not given back since.
abbrev pub Out : List Event → ℕ → Token → ℕ → Type 0
Out log i hold set = Since (λ c. c ≡ takes hold set) (λ c. c ≡ returns hold) log i

-- the line was struck after call j and before call i
pub record Struck (log : List Event) (j i line : ℕ) : Type 0 where
  pub call : ℕ
  pub event : Event
  pub later : j < call
  pub earlier : call < i
  pub here : Call log call event
  pub did : change event ≡ empties line

-- these are the rules, by place, that the calls before call i tell
pub record RulesTold (log : List Event) (i : ℕ) (rules : List (Option Rule)) : Type 0 where
  pub told : (place : ℕ) (rule : Rule) → HasRule log i place rule → at rules place ≡ Some rule
  pub only : (place : ℕ) (rule : Rule) → at rules place ≡ Some rule → HasRule log i place rule

-- before call i the facts name an empty line
abbrev pub NamedEmpty : Meaning → List Event → ℕ → Type 0
NamedEmpty m log i = (n : ℕ) × Has m.names n × (Written log i n → ⊥)
