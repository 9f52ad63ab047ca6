-- Guesses: the bits of a number pick lines out of a set.
use Rattle.std.specs.Prelude.{ℕ, ◌%◌, ◌^◌, count_ones}
use Rattle.sets.specs.Sets.{Has, Within}

-- how many lines of u lie below line n
abbrev pub below : ℕ → ℕ → ℕ
below u n = count_ones (u % 2 ^ n)

-- g picks e out of u: e lies in u, and the line of u that comes j-th from below, counted from 0, is in e exactly if bit j of g is set
pub record Picks (u g e : ℕ) : Type 0 where
  pub part : Within e u
  pub into : (n : ℕ) → Has u n → Has e n → Has g (below u n)
  pub back : (n : ℕ) → Has u n → Has g (below u n) → Has e n
