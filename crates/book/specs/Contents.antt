-- What a book holds, as its calls see it.
use Rattle.std.specs.Prelude.{ℕ, List, replicate, None, Option}
use Rattle.book.specs.declared.rows.Rule.{Rule}

-- a statement: its number, and its words byte by byte
pub record Statement : Type 0 where
  pub number : ℕ
  pub words : List ℕ

-- a hold that is out: the lines of the menu held
pub record Held : Type 0 where
  pub lines : ℕ

pub record Contents : Type 0 where
  -- the statement of each line, 0 to 63, if it has one
  pub lines : List (Option Statement)
  -- the rule of each place, 0 to 39, if it has one
  pub rules : List (Option Rule)
  -- the holds that are out, by hold number
  pub holds : ℕ → Option Held
  -- the number that the next statement gets
  pub next : ℕ
  -- the number that the next hold gets
  pub next_hold : ℕ

-- a new book: every line and every place empty, no hold out, numbers from 1 on
abbrev pub empty_book : Contents
empty_book = record {
  lines = replicate 64 None;
  rules = replicate 40 None;
  holds = λ _. None;
  next = 1;
  next_hold = 1;
}
