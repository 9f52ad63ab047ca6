-- What a menu is, and the order in which menus are listed.
use Rattle.std.specs.Prelude.{◌≡◌, ℕ, ◌^◌, ◌<◌, List, Some, Option, bit_and, count_ones}
use Rattle.sets.specs.Sets.{Has, Within, Smallest}
use Rattle.sets.specs.Picks.{Picks}
use Rattle.facts.specs.Meaning.{Meaning}
use Rattle.book.specs.Rows.{at}
use Rattle.book.specs.declared.rows.Rule.{Rule}

-- the rule is open under e: no line of its unless-set is in e
abbrev pub Open : Rule → ℕ → Type 0
Open r e = (n : ℕ) → Has r.unless n → Has e n → ⊥

-- s has the gives of each rule that is open under e and whose needs lie in s
abbrev pub Obeys : List (Option Rule) → ℕ → ℕ → Type 0
Obeys rules e s = (p : ℕ) (r : Rule) → at rules p ≡ Some r → Open r e → Within r.needs s → Has s r.gives

-- s is closed under the facts and the rules that are open under e
pub record Closed (m : Meaning) (rules : List (Option Rule)) (e s : ℕ) : Type 0 where
  pub left : m.follow s ≡ s
  pub obeys : Obeys rules e s

-- e is a menu: the smallest set closed under the facts and the rules that are open under e itself
abbrev pub Menu : Meaning → List (Option Rule) → ℕ → Type 0
Menu m rules e = Smallest (Closed m rules e) e

-- u has every line of the rules' unless-sets
abbrev pub Covers : ℕ → List (Option Rule) → Type 0
Covers u rules = (p : ℕ) (r : Rule) → at rules p ≡ Some r → Within r.unless u

-- what a planner offers: every menu
abbrev pub Offered : Meaning → List (Option Rule) → ℕ → Type 0
Offered m rules e = Menu m rules e

-- g is the guess of the set s, where u are the lines guessed about: it picks the part of s in u
pub record GuessOf (u s g : ℕ) : Type 0 where
  pub below : g < 2 ^ count_ones u
  pub picks : Picks u g (bit_and s u)

-- s comes before t: the highest line of u where they differ is in t and not in s
pub record Before (u s t : ℕ) : Type 0 where
  pub line : ℕ
  pub guessed : Has u line
  pub lacks : Has s line → ⊥
  pub has : Has t line
  pub alike : (n : ℕ) → line < n → Has u n → (Has s n → Has t n) × (Has t n → Has s n)
