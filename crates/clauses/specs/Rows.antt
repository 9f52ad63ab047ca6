-- Rows and clauses, over any number of atoms. A row says yes or no to each atom: bit a is yes to atom a.
use Rattle.std.specs.Prelude.{◌≡◌, ℕ, ◌^◌, ◌<◌, true, ◌⊎◌, List, is_some, Some, None, Option}
use Rattle.std.specs.List.{AllByRecursion}
use Rattle.sets.specs.Sets.{Has}
use Rattle.clauses.specs.declared.clause.Clause.{Clause}

-- one holds exactly if the other does
abbrev pub Exactly : Type 0 → Type 0 → Type 0
Exactly P Q = (P → Q) × (Q → P)

-- a clause over the atoms 0 to atoms - 1
abbrev pub IsClause : ℕ → Clause → Type 0
IsClause atoms c = (c.first < 2 ^ atoms) × (c.second < 2 ^ atoms)

-- the sense of a line is a clause over the atoms, if the line has one
abbrev pub IsSense : ℕ → Option Clause → Type 0
IsSense atoms o = (c : Clause) → o ≡ Some c → IsClause atoms c

-- the row meets the clause by this atom: it says yes to it and the first set has it, or no and the second has it
abbrev pub MeetsBy : Clause → ℕ → ℕ → Type 0
MeetsBy c row a = (Has c.first a × Has row a) ⊎ (Has c.second a × (Has row a → ⊥))

-- the row meets the clause, by some atom
abbrev pub Meets : Clause → ℕ → Type 0
Meets c row = (a : ℕ) × MeetsBy c row a

abbrev pub MeetsAll : List Clause → ℕ → Type 0
MeetsAll clauses row = AllByRecursion (λ c. Meets c row) clauses

-- the row meets the sense of a line, if the line has one
abbrev pub MeetsSense : Option Clause → ℕ → Type 0
MeetsSense None row = Unit {0}
MeetsSense (Some c) row = Meets c row

-- the row is left: it meets every clause, and the sense of every line of s that has one
pub record Left (atoms : ℕ) (clauses : List Clause) (sense : ℕ → Option Clause) (s row : ℕ) : Type 0 where
  pub is_row : row < 2 ^ atoms
  pub clauses_met : MeetsAll clauses row
  pub senses_met : (n : ℕ) → Has s n → MeetsSense (sense n) row

-- the line has a sense, and every row with P meets it
abbrev pub AllMeet : (ℕ → Type 0) → Option Clause → Type 0
AllMeet P None = ⊥
AllMeet P (Some c) = (row : ℕ) → P row → Meets c row

-- line n has a sense, and every row left meets it
abbrev pub Entailed : ℕ → List Clause → (ℕ → Option Clause) → ℕ → ℕ → Type 0
Entailed atoms clauses sense s n = AllMeet (Left atoms clauses sense s) (sense n)

-- r follows from s: its lines are those of s and those whose sense every row left meets
abbrev pub Follows : ℕ → List Clause → (ℕ → Option Clause) → ℕ → ℕ → Type 0
Follows atoms clauses sense s r = (n : ℕ) → Exactly (Has r n) (Has s n ⊎ Entailed atoms clauses sense s n)

-- r is the set of the lines that have a sense
abbrev pub SensedLines : (ℕ → Option Clause) → ℕ → Type 0
SensedLines sense r = (n : ℕ) → Exactly (Has r n) (is_some (sense n) ≡ true)

-- facts of the kind `Clauses` have so many atoms, and at most so many clauses
abbrev pub atom_count : ℕ
atom_count = 10

abbrev pub most_clauses : ℕ
most_clauses = 24

-- what stands in a place not yet told
abbrev pub no_clause : Clause
no_clause = record { first = 0; second = 0 }
