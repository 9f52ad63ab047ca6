-- Rules, and the lines of rows.
use Rattle.std.specs.Prelude.{◌≡◌, ℕ, ◌^◌, ◌<◌, true, List, [], ◌∷◌, is_some, Some, None, Option, bit_or, slice_index_or}
use Rattle.sets.specs.Sets.{Has}
use Rattle.book.specs.declared.rows.Rule.{Rule}

-- what stands at a place of a table, or nothing past its end
abbrev pub at : {X : Type 0} → List (Option X) → ℕ → Option X
at rows i = slice_index_or rows i None

-- the place is filled
abbrev pub Full : {X : Type 0} → List (Option X) → ℕ → Type 0
Full rows i = is_some (at rows i) ≡ true

-- the place is empty
abbrev pub Vacant : {X : Type 0} → List (Option X) → ℕ → Type 0
Vacant rows i = Full rows i → ⊥

-- one of these lines is empty
abbrev pub AnyVacant : {X : Type 0} → List (Option X) → ℕ → Type 0
AnyVacant rows s = (n : ℕ) × Has s n × Vacant rows n

-- every line that a rule names: in its needs, in its unless-set, or given
abbrev pub lines_named : Rule → ℕ
lines_named r = bit_or (bit_or r.needs r.unless) (2 ^ r.gives)

-- the lines of all rows together, where `lines` says which lines one row has
abbrev pub union : {X : Type 0} → (X → ℕ) → List (Option X) → ℕ
union lines [] = 0
union lines (None ∷ rows) = union lines rows
union lines (Some x ∷ rows) = bit_or (lines x) (union lines rows)

-- the lines that rules name
abbrev pub rule_lines : List (Option Rule) → ℕ
rule_lines rules = union lines_named rules

-- the lines that stand in some unless-set
abbrev pub unless_lines : List (Option Rule) → ℕ
unless_lines rules = union (λ r. r.unless) rules

-- s is the set of the places that are filled
abbrev pub FullOf : {X : Type 0} → List (Option X) → ℕ → Type 0
FullOf rows s = (n : ℕ) → (Has s n → Full rows n) × (Full rows n → Has s n)

-- every rule gives a line, 0 to 63
abbrev pub GivesLines : List (Option Rule) → Type 0
GivesLines rules = (p : ℕ) (r : Rule) → at rules p ≡ Some r → r.gives < 64
