-- What a try of a guess finds, and the theorems that the pages rest on, over any facts with meaning m.
use Rattle.std.specs.Prelude.{◌≡◌, ℕ, ◌^◌, ◌<◌, List, Some, Option, bit_and, bit_or, count_ones}
use Rattle.sets.specs.Sets.{Has, Within, IsLines, Smallest}
use Rattle.sets.specs.Picks.{Picks}
use Rattle.facts.specs.Meaning.{Meaning}
use Rattle.book.specs.Rows.{at}
use Rattle.book.specs.declared.rows.Rule.{Rule}
use Rattle.laws.specs.Menus.{Closed, Menu, Covers}

-- A try of guess g finds s, where `unless` are the lines to guess about: s is the smallest set closed under the rules that the guess leaves
-- open, and its part in those lines is the guess.
pub record Found (m : Meaning) (rules : List (Option Rule)) (unless g s : ℕ) : Type 0 where
  pub guess : ℕ
  pub picked : Picks unless g guess
  pub least : Smallest (Closed m rules guess) s
  pub agrees : bit_and s unless ≡ guess

pub record MenuLaws (m : Meaning) : Type 0 where
  -- a menu is found from exactly one guess, whatever lines are guessed about, if they have every unless-line
  pub one_guess : (rules : List (Option Rule)) (u : ℕ) → IsLines u → Covers u rules → (e : ℕ) → Menu m rules e
      → (g : ℕ) × (g < 2 ^ count_ones u) × Found m rules u g e × ((h : ℕ) → h < 2 ^ count_ones u → Found m rules u h e → h ≡ g)
  -- a found set is a menu
  pub found_menu : (rules : List (Option Rule)) (u : ℕ) → Covers u rules → (g s : ℕ) → Found m rules u g s → Menu m rules s
  -- no menu lies within another
  pub apart : (rules : List (Option Rule)) (e d : ℕ) → Menu m rules e → Menu m rules d → Within e d → e ≡ d
  -- a menu lies within the facts' names and the lines that rules give
  pub inside : (rules : List (Option Rule)) (given : ℕ) → IsLines given → ((p : ℕ) (r : Rule) → at rules p ≡ Some r → Has given r.gives)
      → (e : ℕ) → Menu m rules e → Within e (bit_or m.names given)
