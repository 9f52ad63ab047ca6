-- How a script is taken apart into lines.
use Rattle.std.specs.Prelude.{◌≡◌, ℕ, ◌+◌, ◌<◌, ◌≤◌, min, List, length, ◌≢◌, slice_index}

-- The line that begins at `from` ends before the first byte 0A from there on, or where the input ends;
-- the next line begins after that byte.
pub record Bounded (input : List ℕ) (from end next : ℕ) : Type 0 where
  pub begins : from ≤ end
  pub inside : end ≤ length input
  pub clear : (k : ℕ) → from ≤ k → k < end → slice_index input k ≢ 10
  pub ends : end < length input → slice_index input end ≡ 10
  pub onward : next ≡ min (end + 1) (length input)
  pub further : from < next
