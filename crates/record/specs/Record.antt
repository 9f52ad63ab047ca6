-- The record of a saved menu, as bytes, and which entries a record may hold.
use Rattle.std.specs.Prelude.{◌≡◌, ℕ, ◌+◌, ◌/◌, ◌%◌, ◌<◌, ◌≤◌, Bool, true, false, List, [], ◌∷◌, ◌++◌, length}
use Rattle.std.specs.List.{flat_map, AllByRecursion}
use Rattle.record.specs.declared.entries.Entry.{Entry}
use Rattle.record.specs.declared.entries.Entries.{Entries}

-- the version in use
abbrev pub edition : ℕ
edition = 1

-- how many bytes stand in front of the entries, and how many an entry takes
abbrev pub front_bytes : ℕ
front_bytes = 4

abbrev pub entry_bytes : ℕ
entry_bytes = 3

-- a number in two bytes, the high one first
abbrev pub pair : ℕ → List ℕ
pair n = n / 256 ∷ n % 256 ∷ []

-- an entry: its line in one byte, its number in two
abbrev pub layout : Entry → List ℕ
layout e = e.line ∷ pair e.number

-- the front: how many bytes come behind the first two, the version, how many entries there are
abbrev pub front : ℕ → ℕ → ℕ → List ℕ
front version behind count = pair behind ++ (version ∷ count ∷ [])

-- a record: the front, then the entries; behind its first two bytes come version, count and entries
abbrev pub encode : ℕ → List Entry → List ℕ
encode version es = front version (2 + length (flat_map layout es)) (length es) ++ flat_map layout es

-- lines 0 and 2 with numbers 1 and 3, and the empty menu
abbrev pub Examples : Type 0
Examples =
    (encode edition (record { line = 0; number = 1 } ∷ record { line = 2; number = 3 } ∷ []) ≡ 0 ∷ 8 ∷ 1 ∷ 2 ∷ 0 ∷ 0 ∷ 1 ∷ 2 ∷ 0 ∷ 3 ∷ [])
    × (encode edition [] ≡ 0 ∷ 2 ∷ 1 ∷ 0 ∷ [])

-- the lines rise strictly, the first is `least` or above, and none is above 63
abbrev pub RisingFrom : ℕ → List Entry → Type 0
RisingFrom least [] = Unit {0}
RisingFrom least (e ∷ es) = (least ≤ e.line) × (e.line < 64) × RisingFrom (e.line + 1) es

-- the lines rise strictly, and none is above 63
abbrev pub Rising : List Entry → Type 0
Rising es = RisingFrom 0 es

-- the entry's number has been given out: numbers run from 1, and `next` is the first that has not
abbrev pub GivenOut : ℕ → Entry → Type 0
GivenOut next e = (1 ≤ e.number) × (e.number < next)

-- what a record may hold
pub record Good (next : ℕ) (es : List Entry) : Type 0 where
  pub rising : Rising es
  pub given : AllByRecursion (GivenOut next) es

-- the entry may follow entries whose lines are all below `least`
abbrev pub Fit : ℕ → ℕ → Entry → Type 0
Fit next least e = (least ≤ e.line) × (e.line < 64) × GivenOut next e

-- the entries that a list has
abbrev pub listed : Entries → List Entry
listed x = x.items.items

-- Yes: there was room, and the entry is the last now. No: there were 64 already, and all is as it was.
abbrev pub Pushes : List Entry → Entry → List Entry → Bool → Type 0
Pushes before e after true = (length before < 64) × (after ≡ before ++ (e ∷ []))
Pushes before e after false = (64 ≤ length before) × (after ≡ before)
