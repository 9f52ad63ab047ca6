-- The steps of a list: one turn of a try, and what a reading of guesses finds.
use Rattle.std.specs.Prelude.{◌≡◌, ℕ, ◌+◌, ◌-◌, ◌<◌, ◌≤◌, List, [], ◌∷◌, length, take, drop, Option, slice_index}
use Rattle.facts.specs.Meaning.{Meaning}
use Rattle.facts.specs.Closure.{Passed}
use Rattle.book.specs.declared.rows.Rule.{Rule}
use Rattle.laws.specs.Menus.{Obeys}

-- One turn of a try took s to r: a round over the rules that e leaves open, and then the facts.
pub record Turned (m : Meaning) (rules : List (Option Rule)) (e s r : ℕ) : Type 0 where
  pub round : ℕ
  pub passed : Passed (Obeys rules e) s round
  pub followed : r ≡ m.follow round

-- Reading guesses from `from` on, up to and without `next`, finds just these sets, in the order of the guesses; F g s says that guess g
-- finds s.
abbrev pub Reads : (ℕ → ℕ → Type 0) → ℕ → List ℕ → ℕ → Type 0
Reads F from [] next = (from ≤ next) × ((g s : ℕ) → from ≤ g → g < next → F g s → ⊥)
Reads F from (s ∷ rest) next = (g : ℕ) × (from ≤ g) × F g s × ((h t : ℕ) → from ≤ h → h < g → F h t → ⊥) × Reads F (g + 1) rest next

-- A reading that filled `count` places of a page and stopped before the guess `next`, of `total` guesses.
pub record Reading (F : ℕ → ℕ → Type 0) (from total : ℕ) (before after : List ℕ) (count next : ℕ) : Type 0 where
  pub reads : Reads F from (take count after) next
  pub upto : next ≤ total
  pub fits : count ≤ length before
  pub same_length : length after ≡ length before
  pub stays : drop count after ≡ drop count before
  pub no_place : length before ≡ 0 → next ≡ from
  pub full : 0 < count → count ≡ length before → F (next - 1) (slice_index after (count - 1))

-- The first k of the sets found stand behind the `count` places filled; r places are filled then, and all others stay.
pub record Appended (before : List ℕ) (count : ℕ) (found : List ℕ) (k : ℕ) (after : List ℕ) (r : ℕ) : Type 0 where
  pub filled : r ≡ count + k
  pub same_length : length after ≡ length before
  pub old : (i : ℕ) → i < count → slice_index after i ≡ slice_index before i
  pub new : (j : ℕ) → j < k → slice_index after (count + j) ≡ slice_index found j
  pub stays : drop (count + k) after ≡ drop (count + k) before

-- It stopped where there was no further guess or no free place.
pub record Stopped (F : ℕ → ℕ → Type 0) (from total : ℕ) (before after : List ℕ) (count next : ℕ) : Type 0 where
  pub reading : Reading F from total before after count next
  pub goes_on : count < length before → next ≡ total
