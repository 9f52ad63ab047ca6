-- Sets of lines. A set is a number below 2 ^ 64, and every such number is a set: bit n says whether line n is in.
use Rattle.std.specs.Prelude.{◌≡◌, ◌≢◌, ℕ, ◌/◌, ◌%◌, ◌^◌, ◌<◌, ◌≤◌, Some, None, Option}

-- line n is in s
abbrev pub Has : ℕ → ℕ → Type 0
Has s n = (s / 2 ^ n) % 2 ≡ 1

-- every line of s is in t
abbrev pub Within : ℕ → ℕ → Type 0
Within s t = (n : ℕ) → Has s n → Has t n

-- the lowest line of s is taken, and the others are left; none, if s has no line
abbrev pub TakesLowest : ℕ → Option ℕ → ℕ → Type 0
TakesLowest s None left = (s ≡ 0) × (left ≡ 0)
TakesLowest s (Some line) left =
    Has s line × ((n : ℕ) → Has s n → line ≤ n) × ((n : ℕ) → (Has left n → Has s n × (n ≢ line)) × (Has s n → n ≢ line → Has left n))

-- s is a set of lines
abbrev pub IsLines : ℕ → Type 0
IsLines s = s < 2 ^ 64

-- s is the smallest set with the property P: it has P, and it lies in every set that has P
pub record Smallest (P : ℕ → Type 0) (s : ℕ) : Type 0 where
  pub lines : IsLines s
  pub has : P s
  pub least : (t : ℕ) → IsLines t → P t → Within s t
