use Rattle.std.proofs.Common.{arith}
use Rattle.clauses.specs.Rows.{Meets}
use Rattle.clauses.proofs.Masks.{all_from_within, within_from_all}
use Rattle.clauses.proofs.clauses.rows.all_met.Goals as goal

pub returns : goal.returns
returns c =
    let a = c.args in (
      λ e. all_from_within (Meets a.clause) a.word a.rows c.met.result c.met.ensures (c.within.ensures.0 e),
      λ all. c.within.ensures.1 (within_from_all (Meets a.clause) a.word a.rows c.met.result c.met.ensures (omega arith) all),
    )
