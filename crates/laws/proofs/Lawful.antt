-- The law, of every list of calls on a new planner over lawful facts.
use Rattle.std.proofs.Common.{ℕ}
use Rattle.facts.specs.Meaning.{Meaning, Lawful}
use Rattle.laws.specs.Law.{Law}
use Rattle.laws.proofs.Numbering.{numbers_kept}
use Rattle.laws.proofs.Readings.{pages_kept}
use Rattle.laws.proofs.Recording.{records_kept}
use Rattle.laws.proofs.Striking.{strikes_kept}

pub law_kept : (m : Meaning) → Lawful m → (number : ℕ) → Law m number
law_kept m lawful number log after run = record {
  pages = pages_kept m lawful number log after run;
  records = records_kept m lawful number log after run;
  strikes = strikes_kept m lawful number log after run;
  numbers = numbers_kept m lawful number log after run;
}
