-- What writing answers, and what it leaves in the buffer.
use Rattle.std.specs.Prelude.{◌≡◌, ℕ, ◌<◌, ◌≤◌, List, ◌++◌, length, drop, Some, None, Option}
use Rattle.std.specs.List.{AllByRecursion}
use Rattle.record.specs.declared.entries.Entry.{Entry}
use Rattle.record.specs.Record.{encode, edition}

-- the first number that two bytes do not hold
abbrev pub numbers_end : ℕ
numbers_end = 65536

-- the line fits its one byte, the number its two
abbrev pub InBytes : Entry → Type 0
InBytes e = (e.line < 256) × (e.number < numbers_end)

-- each entry fits its bytes, and how many there are fits one byte
abbrev pub Storable : List Entry → Type 0
Storable es = (length es < 256) × AllByRecursion InBytes es

-- Written, the record stands at the buffer's start, and the rest of the buffer is as it was.
-- Not written, the entries do not fit their bytes or the record does not fit the buffer, and all of it is as it was.
abbrev pub Writes : List Entry → List ℕ → List ℕ → Option ℕ → Type 0
Writes es before after (Some n) =
    Storable es × (n ≡ length (encode edition es)) × (n ≤ length before) × (after ≡ encode edition es ++ drop n before)
Writes es before after None = (Storable es → length (encode edition es) ≤ length before → ⊥) × (after ≡ before)
