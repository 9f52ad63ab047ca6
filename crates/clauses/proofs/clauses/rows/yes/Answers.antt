use Rattle.std.proofs.Common.{arith}
use Rattle.std.proofs.lemmas.Bool.Decides.{not_from_Decides}
use Rattle.clauses.proofs.Bits.{yes_low, yes_all, yes_none}
use Rattle.clauses.proofs.clauses.rows.yes.Goals as goal

pub returns-then-atom-lt-IN_WORD : goal.returns-then-atom-lt-IN_WORD
returns-then-atom-lt-IN_WORD c = yes_low c.args.atom c.args.word (omega arith)

pub returns-then-has : goal.returns-then-has
returns-then-has c = yes_all c.args.atom c.args.word (λ l. omega arith) (c.has.ensures.0 c.if-has.true)

pub returns : goal.returns
returns c = yes_none c.args.atom c.args.word (λ l. omega arith) (not_from_Decides c.has.result c.has.ensures c.if-has.false)
