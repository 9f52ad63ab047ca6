-- Bare facts keep the laws.
use Rattle.std.proofs.Common.{refl, arith}
use Rattle.sets.proofs.Lines.{or_has_left}
use Rattle.facts.specs.Meaning.{Lawful, bare}

pub bare_lawful : Lawful bare
bare_lawful = record {
  names_lines = omega arith;
  follow_lines = λ s l. l;
  keeps = λ s l n h. h;
  monotone = λ s t l m w. w;
  settled = λ s l. refl;
  named = λ s l n h. or_has_left s 0 n h;
}
