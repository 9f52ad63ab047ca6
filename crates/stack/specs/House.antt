-- The layers with clauses at the bottom, told in rows.
use Rattle.std.specs.Prelude.{◌≡◌, ℕ, true, ◌⊎◌, List, is_some, Option}
use Rattle.std.specs.List.{AllByRecursion}
use Rattle.sets.specs.Sets.{Has, Within}
use Rattle.facts.specs.Steps.{Obeys, lines_of}
use Rattle.facts.specs.declared.step.Step.{Step}
use Rattle.clauses.specs.Rows.{Entailed, atom_count}
use Rattle.clauses.specs.declared.clause.Clause.{Clause}

-- s has the set asked about and both given sets, each line whose sense is met by every row that meets all clauses and the
-- senses of the lines of s, and the line of each step whose needs it has
pub record Agrees (clauses : List Clause) (sense : ℕ → Option Clause) (inner : ℕ) (steps : List Step) (outer asked s : ℕ) : Type 0 where
  pub starts : Within asked s
  pub has_outer : Within outer s
  pub has_inner : Within inner s
  pub entailed : (n : ℕ) → Entailed atom_count clauses sense s n → Has s n
  pub obeys : AllByRecursion (Obeys s) steps

-- line n has a sense, is given in a layer, or is in a step
abbrev pub Named : (ℕ → Option Clause) → ℕ → List Step → ℕ → ℕ → Type 0
Named sense inner steps outer n = ((is_some (sense n) ≡ true) ⊎ Has inner n) ⊎ (Has (lines_of steps) n ⊎ Has outer n)
