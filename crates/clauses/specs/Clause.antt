-- A clause, as contracts see it.
use Rattle.std.specs.Prelude.{ℕ}

-- yes to some atom of the first set, or no to some atom of the second
pub record Clause : Type 0 where
  pub first : ℕ
  pub second : ℕ
