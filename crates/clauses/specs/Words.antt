-- Sets of rows in words of sixty-four: bit b of word w is row 64 * w + b.
use Rattle.std.specs.Prelude.{◌≡◌, ℕ, ◌/◌, ◌%◌, ◌^◌, ◌<◌, Bool, List, ◌==◌, slice_index}
use Rattle.sets.specs.Sets.{Has}
use Rattle.clauses.specs.Rows.{Exactly, atom_count}
use Rattle.clauses.specs.Computed.{meets_all}
use Rattle.clauses.specs.declared.clause.Clause.{Clause}

-- x has those rows of word w of which P holds
abbrev pub WordOf : (ℕ → Type 0) → ℕ → ℕ → Type 0
WordOf P w x = (row : ℕ) → row / 64 ≡ w → Exactly (Has x (row % 64)) (P row)

-- the row is in the table
abbrev pub InTable : List ℕ → ℕ → Type 0
InTable words row = Has (slice_index words (row / 64)) (row % 64)

-- the rows of the table
abbrev pub RowOf : List ℕ → ℕ → Type 0
RowOf words row = (row < 2 ^ atom_count) × InTable words row

-- the table has those rows of which P holds
abbrev pub TableOf : (ℕ → Type 0) → List ℕ → Type 0
TableOf P words = (row : ℕ) → row < 2 ^ atom_count → Exactly (InTable words row) (P row)

-- the test whether the row is in the table
abbrev pub in_table : List ℕ → ℕ → Bool
in_table words row = (slice_index words (row / 64) / 2 ^ (row % 64)) % 2 == 1

-- the table has those rows that meet all the clauses, told by tests
abbrev pub Narrowed : List Clause → List ℕ → Type 0
Narrowed clauses words = (row : ℕ) → row < 2 ^ atom_count → in_table words row ≡ meets_all row clauses
