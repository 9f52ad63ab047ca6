use Rattle.clauses.specs.Words.{WordOf}
use Rattle.clauses.proofs.Masks.{MeetsBelow}
use Rattle.clauses.proofs.clauses.rows.met.Given as goal

-- the rows that meet the clause by an atom so far
abbrev pub invariant-loop-atom : goal.invariant-loop-atom
invariant-loop-atom l = WordOf (MeetsBelow l.fn.clause l.atom) l.word l.rows
