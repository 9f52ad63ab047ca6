-- Facts told by steps: with all these lines in, this line too.
use Rattle.std.specs.Prelude.{◌≡◌, ℕ, zero, suc, ◌^◌, ◌<◌, true, false, cond, ◌⊎◌, List, [], ◌∷◌, ◌==◌, bit_and, bit_or}
use Rattle.std.specs.List.{AllByRecursion}
use Rattle.sets.specs.Sets.{Has, Within, IsLines, Smallest}
use Rattle.facts.specs.Meaning.{Meaning}
use Rattle.facts.specs.declared.step.Step.{Step}

-- how many steps one kitchen's facts may have
abbrev pub most_steps : ℕ
most_steps = 32

-- a step's needs are a set of lines, and it gives a line
abbrev pub IsStep : Step → Type 0
IsStep x = IsLines x.needs × (x.gives < 64)

-- the step that adds nothing
abbrev pub no_step : Step
no_step = record { needs = 0; gives = 0 }

-- if s has the needs of the step, it has the line that the step gives
abbrev pub Obeys : ℕ → Step → Type 0
Obeys s x = Within x.needs s → Has s x.gives

-- One step takes s to r: with its needs in s it adds its line and nothing else; without them it adds nothing.
pub record Fires (x : Step) (s r : ℕ) : Type 0 where
  pub old : Within s r
  pub new : Within x.needs s → Has r x.gives
  pub only : (n : ℕ) → Has r n → Has s n ⊎ (Within x.needs s × (n ≡ x.gives))

-- s has `start`, the facts below leave it as it is, and it obeys each step
pub record Closed (m : Meaning) (steps : List Step) (start s : ℕ) : Type 0 where
  pub starts : Within start s
  pub left : m.follow s ≡ s
  pub obeys : AllByRecursion (Obeys s) steps

-- what follows from `start` by the steps over the facts below
abbrev pub Follows : Meaning → List Step → ℕ → ℕ → Type 0
Follows m steps start s = Smallest (Closed m steps start) s

-- every line in a step, needs and gives
abbrev pub lines_in : Step → ℕ
lines_in x = bit_or x.needs (2 ^ x.gives)

-- every line in the steps
abbrev pub lines_of : List Step → ℕ
lines_of [] = 0
lines_of (x ∷ xs) = bit_or (lines_in x) (lines_of xs)

-- A way to compute what follows: pass over the steps and ask the facts below, until nothing is added.
abbrev pub pass : List Step → ℕ → ℕ
pass [] s = s
pass (x ∷ xs) s = pass xs (cond (bit_and x.needs s == x.needs) (bit_or s (2 ^ x.gives)) s)

unfoldable pub settle : ℕ → (ℕ → ℕ) → ℕ → ℕ
settle zero f s = s
settle (suc fuel) f s = elim (f s == s) [ true ↦ s | false ↦ settle fuel f (f s) ]

-- the meaning of steps over the facts below; its follow is `Follows`
abbrev pub stepped : List Step → Meaning → Meaning
stepped steps m = record {
  names = bit_or m.names (lines_of steps);
  follow = λ s. settle (2 ^ 64) (λ t. m.follow (pass steps t)) (m.follow s);
}
