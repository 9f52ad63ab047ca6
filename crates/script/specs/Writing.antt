-- What a print leaves in the buffer that it was lent.
use Rattle.std.specs.Prelude.{◌≡◌, ℕ, ◌+◌, ◌≤◌, List, ◌++◌, length, take, drop}
use Rattle.script.specs.declared.printer.Printer.{Printer}

-- A print at the place `at` ends at the place `end`, which lies in the buffer if `at` did.
-- The bytes before `at` and those from `end` on stay.
pub record Kept (before : List ℕ) (at : ℕ) (after : List ℕ) (end : ℕ) : Type 0 where
  pub rises : at ≤ end
  pub inside : at ≤ length before → end ≤ length before
  pub size : length after ≡ length before
  pub front : take at after ≡ take at before
  pub rest : drop end after ≡ drop end before

-- It has printed the whole text.
pub record Whole (before : List ℕ) (at : ℕ) (text after : List ℕ) (end : ℕ) : Type 0 where
  pub place : end ≡ at + length text
  pub bytes : after ≡ take at before ++ (text ++ drop (at + length text) before)

-- A print of a text, which is whole if the buffer has room for it.
pub record Wrote (before : List ℕ) (at : ℕ) (text after : List ℕ) (end : ℕ) : Type 0 where
  pub kept : Kept before at after end
  pub whole : at + length text ≤ length before → Whole before at text after end

-- A printer that prints a text goes on in the same buffer.
pub record Prints (was : Printer) (text : List ℕ) (is : Printer) : Type 0 where
  pub same : is.buffer.ghost_name ≡ was.buffer.ghost_name
  pub wrote : Wrote was.buffer.now was.at text is.buffer.now is.at

-- A printer that prints a short text, of at most 31 bytes.
pub record Says (was : Printer) (text : List ℕ) (is : Printer) : Type 0 where
  pub printed : Prints was text is
  pub short : length text ≤ 31
