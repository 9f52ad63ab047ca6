-- What a menu is saved as: its lines with their numbers.
use Rattle.std.specs.Prelude.{◌≡◌, ℕ, ◌⊎◌, List, [], ◌∷◌, Some}
use Rattle.sets.specs.Sets.{Has}
use Rattle.record.specs.Record.{Rising}
use Rattle.record.specs.declared.entries.Entry.{Entry}
use Rattle.book.specs.Contents.{Contents}
use Rattle.book.specs.Calls.{number_at}

-- one of the entries is this line with this number
abbrev pub Lists : List Entry → ℕ → ℕ → Type 0
Lists [] line number = ⊥
Lists (e ∷ es) line number = ((e.line ≡ line) × (e.number ≡ number)) ⊎ Lists es line number

-- the entries of a set of lines: each of its lines that has a statement now, rising, with the statement's number
pub record EntriesOf (c : Contents) (lines : ℕ) (es : List Entry) : Type 0 where
  pub rising : Rising es
  pub each : (line number : ℕ) → Lists es line number → Has lines line × (number_at c line ≡ Some number)
  pub every : (line number : ℕ) → Has lines line → number_at c line ≡ Some number → Lists es line number
