-- What every book keeps, as facts about its tables.
use Rattle.std.specs.Prelude.{◌≡◌, ℕ, ◌+◌, ◌<◌, ◌≤◌, List, length, Some, Option, count_ones}
use Rattle.std.specs.Option.{option_map}
use Rattle.sets.specs.Sets.{Has}
use Rattle.book.specs.Rows.{at, Full, union, unless_lines}
use Rattle.book.specs.declared.rows.LineRow.{LineRow}
use Rattle.book.specs.declared.rows.Rule.{Rule}

-- the last number that a statement or a hold may get
abbrev pub last_number : ℕ
last_number = 65535

-- how many lines may stand in unless-sets
abbrev pub most_unless : ℕ
most_unless = 12

module _ {X : Type 0} (number : X → ℕ) where
  -- no two rows have one number
  abbrev pub Distinct : List (Option X) → Type 0
  Distinct rows = (i j : ℕ) → Full rows i × (option_map number (at rows i) ≡ option_map number (at rows j)) → i ≡ j

  -- every number given is from 1 on and below the next
  abbrev pub Given : List (Option X) → ℕ → Type 0
  Given rows next = (i : ℕ) (a : X) → at rows i ≡ Some a → (1 ≤ number a) × (number a < next)

-- every line that some row has is filled, where `lines` says which lines one row has
abbrev pub OnLines : {X : Type 0} → (X → ℕ) → List (Option X) → List (Option LineRow) → Type 0
OnLines lines rows filled = (n : ℕ) → Has (union lines rows) n → Full filled n

-- the words of a statement lie within its 24 bytes
abbrev pub Worded : List (Option LineRow) → Type 0
Worded rows = (i : ℕ) (a : LineRow) → at rows i ≡ Some a → length a.words ≤ 24

-- at most so many lines stand in unless-sets
abbrev pub FewUnless : List (Option Rule) → Type 0
FewUnless rules = count_ones (unless_lines rules) ≤ most_unless

-- the next number is from 1 on and at most one past the last
abbrev pub InRange : ℕ → Type 0
InRange next = (1 ≤ next) × (next ≤ last_number + 1)
