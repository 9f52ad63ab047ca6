use Rattle.sets.proofs.Walking.{Walked}
use Rattle.clauses.specs.Told.{clauses_of, sense_of}
use Rattle.clauses.specs.Words.{TableOf}
use Rattle.clauses.proofs.Masks.{LeftBelow}
use Rattle.clauses.proofs.clauses.Clauses.left.Given as goal

-- the rows that meet the clauses and the senses of the lines so far
abbrev pub invariant-loop-line : goal.invariant-loop-line
invariant-loop-line l = Walked (λ k. TableOf (LeftBelow (clauses_of l.self) (sense_of l.self) l.set k) l.rows.words) l.set l.line-iterator.left
