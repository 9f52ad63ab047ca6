-- What one pass over rows promises, where each row asks something of a set: C says of a set that it obeys them all.
use Rattle.std.specs.Prelude.{◌≡◌, ℕ}
use Rattle.sets.specs.Sets.{Within, IsLines}

-- The pass went from s to r. It added only what every set has that has s and obeys the rows; and if it added nothing, s obeys them.
pub record Passed (C : ℕ → Type 0) (s r : ℕ) : Type 0 where
  pub lines : IsLines r
  pub grows : Within s r
  pub inside : (c : ℕ) → IsLines c → C c → Within s c → Within r c
  pub done : r ≡ s → C s
