-- The calls that a script makes, by what the crates below promise of them.
use Rattle.std.specs.Prelude.{◌≡◌, ℕ, List, [], replicate, Result}
use Rattle.sets.specs.declared.refusal.Refusal.{Refusal}
use Rattle.facts.specs.Meaning.{Meaning, bare}
use Rattle.facts.specs.Steps.{stepped}
use Rattle.facts.specs.Told.{told, PutStep}
use Rattle.facts.specs.declared.Bare.{Bare}
use Rattle.facts.specs.declared.steps.Steps.{Steps}
use Rattle.planner.specs.View.{view, facts_of}
use Rattle.laws.specs.World.{Event, Step, fresh, listed}
use Rattle.laws.specs.declared.listing.Listing.{Listing}
use Rattle.planner.specs.declared.planner.Planner.{Planner}

-- a script's facts are steps over bare facts
abbrev pub ScriptFacts : Type 0
ScriptFacts = Steps Bare

abbrev pub means : ScriptFacts → Meaning
means facts = stepped (told facts) bare

-- the facts that a script begins with: no step told
abbrev pub Begun : ScriptFacts → Type 0
Begun facts = told facts ≡ []

-- a new planner with this number, which owns these facts
abbrev pub Started : ℕ → ScriptFacts → Planner ScriptFacts → Type 0
Started number facts planner = (view planner ≡ fresh number) × (facts_of planner ≡ facts)

-- a step was asked of the facts
abbrev pub Stepped : ScriptFacts → ℕ → ℕ → ScriptFacts → Result (Unit {0}) Refusal → Type 0
Stepped was needs gives is r = PutStep (told was) needs gives r (told is)

-- a call took the planner from what it was to what it is; its facts stay
abbrev pub Called : Planner ScriptFacts → Event → Planner ScriptFacts → Type 0
Called was event is = Step (means (facts_of was)) (view was) event (view is) × (facts_of is ≡ facts_of was)

-- a list was asked for on a page of 16, which it left so; the planner stays
abbrev pub Listed : Planner ScriptFacts → ℕ → List ℕ → Result Listing Refusal → Type 0
Listed planner from page r = Step (means (facts_of planner)) (view planner) (listed from (replicate 16 0) page r) (view planner)
