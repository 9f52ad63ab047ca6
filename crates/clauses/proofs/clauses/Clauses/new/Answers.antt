use Rattle.std.proofs.Common.{rules, [], None, sym, ◌∙◌}
use Rattle.sets.proofs.Rows.{no_some, replicate_each}
use Rattle.clauses.specs.Deciding.{narrowed_from_table}
use Rattle.clauses.proofs.clauses.Clauses.new.Goals as goal

pub invariant_of-result-clause-narrowed : goal.invariant_of-result-clause-narrowed
invariant_of-result-clause-narrowed c row l = let none = narrowed_from_table [] c.every.result.words c.every.ensures row l in search rules

pub invariant_of-result-clause-senses_fit : goal.invariant_of-result-clause-senses_fit
invariant_of-result-clause-senses_fit c n clause e = absurd (no_some (sym (replicate_each 64 None n) ∙ e))

pub returns-clause-senses : goal.returns-clause-senses
returns-clause-senses c n = replicate_each 64 None n
