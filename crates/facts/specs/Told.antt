-- The steps that were told to facts of the kind `Steps`, in order, and when a further one is refused.
use Rattle.std.specs.Prelude.{◌≡◌, ℕ, ◌<◌, ◌≤◌, List, [], ◌∷◌, ◌++◌, length, Result}
use Rattle.sets.specs.Grounds.{Ground, Answered}
use Rattle.sets.specs.declared.refusal.Refusal.{Refusal}
use Rattle.sets.specs.declared.refusal.Refusal.TheVariants.{OutOfRange, FactsFull}
use Rattle.facts.specs.Steps.{most_steps}
use Rattle.facts.specs.declared.step.Step.{Step}
use Rattle.facts.specs.declared.steps.Steps.{Steps}

abbrev pub told : {F : Type 0} → Steps F → List Step
told f = f.rows.items

-- a step is refused if it gives a line above 63, then if there are as many steps as there may be
abbrev pub step_grounds : List Step → ℕ → List Ground
step_grounds steps gives =
    record { gives = OutOfRange; when = 63 < gives } ∷ record { gives = FactsFull; when = most_steps ≤ length steps } ∷ []

-- the step is added as the last
abbrev pub PutStep : List Step → ℕ → ℕ → Result (Unit {0}) Refusal → List Step → Type 0
PutStep steps needs gives answer after =
    Answered (step_grounds steps gives) (λ _. after ≡ steps ++ record { needs = needs; gives = gives } ∷ []) (after ≡ steps) answer
