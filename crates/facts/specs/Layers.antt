-- The parts of the layers, for those who speak of a stack of them.
use Rattle.std.specs.Prelude.{ℕ}
use Rattle.facts.specs.declared.given.Given.{Given}
use Rattle.facts.specs.declared.steps.Steps.{Steps}

-- the lines that are given
abbrev pub lines_given : {F : Type 0} → Given F → ℕ
lines_given f = f.lines

-- the facts below a given set, and below steps
abbrev pub under_given : {F : Type 0} → Given F → F
under_given f = f.below

abbrev pub under_steps : {F : Type 0} → Steps F → F
under_steps f = f.below
