-- Facts with a set of lines that is always in.
use Rattle.std.specs.Prelude.{ℕ, bit_or}
use Rattle.facts.specs.Meaning.{Meaning}

-- The meaning of a given set over the facts below: they are asked of every set together with it, and its lines are named too.
abbrev pub given : ℕ → Meaning → Meaning
given a m = record { names = bit_or m.names a; follow = λ s. m.follow (bit_or s a) }
