-- The calls on a book: on which grounds each is refused, what it answers, and what an accepted one changes.
use Rattle.std.specs.Prelude.{◌≡◌, ℕ, ◌+◌, ◌<◌, ◌⊎◌, List, [], ◌∷◌, ◌++◌, length, drop, Some, None, Option, Result, MatchOption, ◌≢◌, bit_or, count_ones, slice_set}
use Rattle.std.specs.Option.{option_map}
use Rattle.sets.specs.Sets.{Has}
use Rattle.sets.specs.Grounds.{Ground, Answered}
use Rattle.sets.specs.declared.refusal.Refusal.{Refusal}
use Rattle.sets.specs.declared.refusal.Refusal.TheVariants.{OutOfRange, Filled, BadWords, NumbersSpent, Empty, Held, Named, TooManyUnless, BufferTooShort}
pub use Rattle.book.specs.Words.{GoodWords}
use Rattle.book.specs.Rows.{at, Full, Vacant, AnyVacant, lines_named, rule_lines, unless_lines}
use Rattle.book.specs.Kept.{last_number, most_unless}
use Rattle.book.specs.Contents.{Contents, Statement, Held as OutHold}
use Rattle.book.specs.declared.rows.Rule.{Rule}
use Rattle.book.specs.declared.rows.Wording.{Wording}

-- a rule names the line
abbrev pub IsNamed : Contents → ℕ → Type 0
IsNamed c line = Has (rule_lines c.rules) line

-- a hold that is out has the line
abbrev pub IsHeld : Contents → ℕ → Type 0
IsHeld c line = (n : ℕ) × (h : OutHold) × (c.holds n ≡ Some h) × Has h.lines line

abbrev pub write_grounds : Contents → ℕ → List ℕ → List Ground
write_grounds c line words =
    record { gives = OutOfRange; when = 63 < line }
    ∷ record { gives = Filled; when = Full c.lines line }
    ∷ record { gives = BadWords; when = GoodWords words → ⊥ }
    ∷ record { gives = NumbersSpent; when = last_number < c.next }
    ∷ []

-- the line gets a statement with the next number, which is the answer
abbrev pub Write : Contents → ℕ → List ℕ → Result ℕ Refusal → Contents → Type 0
Write c line words answer after =
    Answered (write_grounds c line words)
    (λ number. (number ≡ c.next) × (after ≡ record {
      lines = slice_set c.lines line (Some (record { number = c.next; words = words }));
      rules = c.rules;
      holds = c.holds;
      next = c.next + 1;
      next_hold = c.next_hold;
    }))
    (after ≡ c)
    answer

-- `named` are the lines that the facts name
abbrev pub strike_grounds : ℕ → Contents → ℕ → List Ground
strike_grounds named c line =
    record { gives = OutOfRange; when = 63 < line }
    ∷ record { gives = Empty; when = Vacant c.lines line }
    ∷ record { gives = Held; when = IsHeld c line }
    ∷ record { gives = Named; when = IsNamed c line ⊎ Has named line }
    ∷ []

-- the line is empty from now on
abbrev pub Strike : ℕ → Contents → ℕ → Result (Unit {0}) Refusal → Contents → Type 0
Strike named c line answer after =
    Answered (strike_grounds named c line)
    (λ _. after ≡ record {
      lines = slice_set c.lines line None;
      rules = c.rules;
      holds = c.holds;
      next = c.next;
      next_hold = c.next_hold;
    })
    (after ≡ c)
    answer

-- the rule names an empty line
abbrev pub NamesVacant : Contents → Rule → Type 0
NamesVacant c rule = AnyVacant c.lines (lines_named rule)

abbrev pub rule_grounds : Contents → ℕ → Rule → List Ground
rule_grounds c place rule =
    record { gives = OutOfRange; when = (39 < place) ⊎ (63 < rule.gives) }
    ∷ record { gives = Filled; when = Full c.rules place }
    ∷ record { gives = Empty; when = NamesVacant c rule }
    ∷ record { gives = TooManyUnless; when = most_unless < count_ones (bit_or (unless_lines c.rules) rule.unless) }
    ∷ []

-- the place has the rule from now on
abbrev pub PutRule : Contents → ℕ → Rule → Result (Unit {0}) Refusal → Contents → Type 0
PutRule c place rule answer after =
    Answered (rule_grounds c place rule)
    (λ _. after ≡ record {
      lines = c.lines;
      rules = slice_set c.rules place (Some rule);
      holds = c.holds;
      next = c.next;
      next_hold = c.next_hold;
    })
    (after ≡ c)
    answer

abbrev pub unrule_grounds : Contents → ℕ → List Ground
unrule_grounds c place =
    record { gives = OutOfRange; when = 39 < place }
    ∷ record { gives = Empty; when = Vacant c.rules place }
    ∷ []

-- the place is empty from now on
abbrev pub Unrule : Contents → ℕ → Result (Unit {0}) Refusal → Contents → Type 0
Unrule c place answer after =
    Answered (unrule_grounds c place)
    (λ _. after ≡ record {
      lines = c.lines;
      rules = slice_set c.rules place None;
      holds = c.holds;
      next = c.next;
      next_hold = c.next_hold;
    })
    (after ≡ c)
    answer

-- the words of the line do not fit a buffer of this length
abbrev pub TooShort : Contents → ℕ → ℕ → Type 0
TooShort c line room = (s : Statement) × (at c.lines line ≡ Some s) × (room < length s.words)

abbrev pub words_grounds : Contents → ℕ → ℕ → List Ground
words_grounds c line room =
    record { gives = OutOfRange; when = 63 < line }
    ∷ record { gives = Empty; when = Vacant c.lines line }
    ∷ record { gives = BufferTooShort; when = TooShort c line room }
    ∷ []

-- The words of the line stand at the buffer's start, and the rest of the buffer stays; the answer is their length and the number.
pub record Said (c : Contents) (line : ℕ) (before after : List ℕ) (len number : ℕ) : Type 0 where
  pub statement : Statement
  pub here : at c.lines line ≡ Some statement
  pub length_is : len ≡ length statement.words
  pub number_is : number ≡ statement.number
  pub bytes : after ≡ statement.words ++ drop len before

abbrev pub SayWords : Contents → ℕ → List ℕ → List ℕ → Result Wording Refusal → Type 0
SayWords c line before after answer = Answered (words_grounds c line (length before)) (λ w. Said c line before after w.len w.number) (after ≡ before) answer

-- the number of the line's statement, if it has one
abbrev pub number_at : Contents → ℕ → Option ℕ
number_at c line = option_map (λ s. s.number) (at c.lines line)

-- The line that has this number now, or none. Only one line has it, and no line has number 0.
pub record Where (c : Contents) (number : ℕ) (answer : Option ℕ) : Type 0 where
  pub here : MatchOption answer ((line : ℕ) → number_at c line ≢ Some number) (λ line. number_at c line ≡ Some number)
  pub one : (line other : ℕ) → number_at c line ≡ Some number → number_at c other ≡ Some number → line ≡ other
  pub not_zero : number ≡ 0 → answer ≡ None
