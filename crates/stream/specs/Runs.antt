-- The answers to a whole script.
use Rattle.std.specs.Prelude.{◌≡◌, ℕ, ◌-◌, ◌<◌, ◌≤◌, List, [], ◌++◌, length, take, drop}
use Rattle.script.specs.Answering.{LineAnswer, Opens}
use Rattle.script.specs.Lines.{Bounded}
use Rattle.script.specs.Texts.{bad_text}
use Rattle.script.specs.declared.session.Session.{Session}

-- A text that is so was put after what stood there.
pub record Appended (So : List ℕ → Type 0) (before after : List ℕ) : Type 0 where
  pub text : List ℕ
  pub so : So text
  pub whole : after ≡ before ++ text

-- the bytes from one place to another
abbrev pub between : List ℕ → ℕ → ℕ → List ℕ
between input from end = take (end - from) (drop from input)

-- The lines of the input up to a place are answered by a text, one after the other: each by the session that the one before it left.
pub data Run (input : List ℕ) (first : Session) : ℕ → Session → List ℕ → Type 0 where
  begun : Run input first 0 first []
  onward : {from : ℕ} {was : Session} {text : List ℕ} → Run input first from was text →
      (end next : ℕ) → Bounded input from end next →
      (is : Session) (answer : List ℕ) → LineAnswer was (between input from end) from is answer →
      Run input first next is (text ++ answer)

-- The text that answers all lines of the input, from a fresh session of planner number 1.
pub record Answered (input text : List ℕ) : Type 0 where
  pub first : Session
  pub opens : Opens 1 first
  pub last : Session
  pub run : Run input first (length input) last text

-- The text that answers a script: all its lines, or only that it is longer than 8,192 bytes.
pub record Answers (input text : List ℕ) : Type 0 where
  pub read : length input ≤ 8192 → Answered input text
  pub refused : 8192 < length input → text ≡ bad_text 8192
