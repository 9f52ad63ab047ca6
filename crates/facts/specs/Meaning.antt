-- What facts mean, and the laws that facts of every kind keep.
use Rattle.std.specs.Prelude.{◌≡◌, ℕ, bit_or}
use Rattle.sets.specs.Sets.{Within, IsLines}

-- The meaning of facts: the lines that they name, and for each set of lines the set that follows from it.
pub record Meaning : Type 0 where
  pub names : ℕ
  pub follow : ℕ → ℕ

pub record Lawful (m : Meaning) : Type 0 where
  -- both answers are sets of lines
  pub names_lines : IsLines m.names
  pub follow_lines : (s : ℕ) → IsLines s → IsLines (m.follow s)
  -- a set lies in what follows from it
  pub keeps : (s : ℕ) → IsLines s → Within s (m.follow s)
  -- from more, more follows
  pub monotone : (s t : ℕ) → IsLines s → IsLines t → Within s t → Within (m.follow s) (m.follow t)
  -- what follows has nothing left that follows from it
  pub settled : (s : ℕ) → IsLines s → m.follow (m.follow s) ≡ m.follow s
  -- only lines that the facts name are added
  pub named : (s : ℕ) → IsLines s → Within (m.follow s) (bit_or s m.names)

-- bare facts: nothing more follows, and no line is named
abbrev pub bare : Meaning
bare = record { names = 0; follow = λ s. s }
