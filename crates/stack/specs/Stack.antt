-- A stack of layers: a given set (the outer) over steps over a given set (the inner) over facts (the bottom).
use Rattle.std.specs.Prelude.{◌≡◌, ℕ, List}
use Rattle.std.specs.List.{AllByRecursion}
use Rattle.sets.specs.Sets.{Within}
use Rattle.facts.specs.Meaning.{Meaning}
use Rattle.facts.specs.Steps.{Obeys}
use Rattle.facts.specs.Told.{told}
use Rattle.facts.specs.Layers.{lines_given, under_given, under_steps}
use Rattle.facts.specs.declared.given.Given.{Given}
use Rattle.facts.specs.declared.step.Step.{Step}
use Rattle.facts.specs.declared.steps.Steps.{Steps}

-- its parts
abbrev pub outer_of : {F : Type 0} → Given (Steps (Given F)) → ℕ
outer_of f = lines_given f

abbrev pub steps_of : {F : Type 0} → Given (Steps (Given F)) → List Step
steps_of f = told (under_given f)

abbrev pub inner_of : {F : Type 0} → Given (Steps (Given F)) → ℕ
inner_of f = lines_given (under_steps (under_given f))

abbrev pub bottom_of : {F : Type 0} → Given (Steps (Given F)) → F
bottom_of f = under_given (under_steps (under_given f))

-- s has the set asked about and both given sets, the facts at the bottom leave it as it is, and it obeys each step
pub record Stands (bottom : Meaning) (inner : ℕ) (steps : List Step) (outer asked s : ℕ) : Type 0 where
  pub starts : Within asked s
  pub has_outer : Within outer s
  pub has_inner : Within inner s
  pub left : bottom.follow s ≡ s
  pub obeys : AllByRecursion (Obeys s) steps
