-- What was told to facts of the kind `Clauses`: the clauses in order, and the sense of each line; and when more is refused.
use Rattle.std.specs.Prelude.{◌≡◌, ℕ, ◌^◌, ◌<◌, ◌≤◌, true, ◌≢◌, ◌⊎◌, List, [], ◌∷◌, ◌++◌, length, is_some, Some, None, Option, Result, slice_index_or}
use Rattle.sets.specs.Grounds.{Ground, Answered}
use Rattle.sets.specs.declared.refusal.Refusal.{Refusal}
use Rattle.sets.specs.declared.refusal.Refusal.TheVariants.{OutOfRange, AtomsTooHigh, FactsFull, HasSense}
use Rattle.clauses.specs.Rows.{atom_count, most_clauses}
use Rattle.clauses.specs.declared.clause.Clause.{Clause}
use Rattle.clauses.specs.declared.clauses.Clauses.{Clauses}

abbrev pub clauses_of : Clauses → List Clause
clauses_of f = f.told.items

abbrev pub sense_of : Clauses → ℕ → Option Clause
sense_of f n = slice_index_or f.senses n None

-- one of the sets has an atom above the highest
abbrev pub TooHigh : ℕ → ℕ → Type 0
TooHigh first second = (2 ^ atom_count ≤ first) ⊎ (2 ^ atom_count ≤ second)

-- a clause is none if its atoms are too high
abbrev pub atom_grounds : ℕ → ℕ → List Ground
atom_grounds first second = record { gives = AtomsTooHigh; when = TooHigh first second } ∷ []

-- a clause is refused if its atoms are too high, then if there are as many clauses as there may be
abbrev pub clause_grounds : List Clause → ℕ → ℕ → List Ground
clause_grounds clauses first second =
    record { gives = AtomsTooHigh; when = TooHigh first second } ∷ record { gives = FactsFull; when = most_clauses ≤ length clauses } ∷ []

-- the clause is added as the last
abbrev pub PutClause : List Clause → ℕ → ℕ → Result (Unit {0}) Refusal → List Clause → Type 0
PutClause clauses first second answer after =
    Answered (clause_grounds clauses first second) (λ _. after ≡ clauses ++ record { first = first; second = second } ∷ []) (after ≡ clauses) answer

-- a sense is refused if there is no such line, then if its atoms are too high, then if the line has a sense
abbrev pub sense_grounds : (ℕ → Option Clause) → ℕ → ℕ → ℕ → List Ground
sense_grounds sense line first second =
    record { gives = OutOfRange; when = 63 < line }
    ∷ record { gives = AtomsTooHigh; when = TooHigh first second }
    ∷ record { gives = HasSense; when = is_some (sense line) ≡ true }
    ∷ []

-- the senses are as they were
abbrev pub SameSenses : (ℕ → Option Clause) → (ℕ → Option Clause) → Type 0
SameSenses sense after = (n : ℕ) → after n ≡ sense n

-- the line has the sense from now on, and every other line what it had
abbrev pub PutSense : (ℕ → Option Clause) → ℕ → ℕ → ℕ → Result (Unit {0}) Refusal → (ℕ → Option Clause) → Type 0
PutSense sense line first second answer after =
    Answered (sense_grounds sense line first second)
    (λ _. (after line ≡ Some (record { first = first; second = second })) × ((n : ℕ) → n ≢ line → after n ≡ sense n))
    (SameSenses sense after)
    answer
