-- A way to compute what follows: try every row and every line.
use Rattle.std.specs.Prelude.{ℕ, zero, suc, ◌/◌, ◌%◌, ◌^◌, Bool, true, false, cond, not, ◌&&◌, ◌||◌, List, [], ◌∷◌, is_some, Some, None, Option, ◌==◌, bit_and, bit_or}
use Rattle.facts.specs.Meaning.{Meaning}
use Rattle.clauses.specs.declared.clause.Clause.{Clause}

-- the test passes at every number below n
unfoldable pub all_below : (ℕ → Bool) → ℕ → Bool
all_below p zero = true
all_below p (suc n) = p n && all_below p n

-- the set of the lines below n that pass the test
unfoldable pub gather : (ℕ → Bool) → ℕ → ℕ
gather p zero = 0
gather p (suc n) = bit_or (gather p n) (cond (p n) (2 ^ n) 0)

-- the test whether a row meets a clause: an atom of the first in common, or an atom of the second not in the row
abbrev pub meets : Clause → ℕ → Bool
meets c row = not (bit_and c.first row == 0) || not (bit_and c.second row == c.second)

abbrev pub meets_all : ℕ → List Clause → Bool
meets_all row [] = true
meets_all row (c ∷ cs) = meets c row && meets_all row cs

abbrev pub meets_sense : ℕ → Option Clause → Bool
meets_sense row None = true
meets_sense row (Some c) = meets c row

-- the tests whether a row is left, whether every row left meets a clause, and whether a line is entailed
unfoldable pub is_left : List Clause → (ℕ → Option Clause) → ℕ → ℕ → Bool
is_left clauses sense s row = meets_all row clauses && all_below (λ n. not ((s / 2 ^ n) % 2 == 1) || meets_sense row (sense n)) 64

unfoldable pub entails : ℕ → List Clause → (ℕ → Option Clause) → ℕ → Clause → Bool
entails atoms clauses sense s c = all_below (λ row. not (is_left clauses sense s row) || meets c row) (2 ^ atoms)

abbrev pub entails_sense : ℕ → List Clause → (ℕ → Option Clause) → ℕ → Option Clause → Bool
entails_sense atoms clauses sense s None = false
entails_sense atoms clauses sense s (Some c) = entails atoms clauses sense s c

-- the meaning of clauses and senses; its follow is `Follows`, and its names are `SensedLines`
abbrev pub clausal : ℕ → List Clause → (ℕ → Option Clause) → Meaning
clausal atoms clauses sense = record {
  names = gather (λ n. is_some (sense n)) 64;
  follow = λ s. bit_or s (gather (λ n. entails_sense atoms clauses sense s (sense n)) 64);
}
