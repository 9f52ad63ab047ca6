use Rattle.std.proofs.Common.{◌≢◌, get_or, ◌∙◌, arith}
use Rattle.std.proofs.lemmas.List.{length-set, get_or-set_other}
use Rattle.clauses.specs.Rows.{Meets}
use Rattle.clauses.proofs.Masks.{words_more}
use Rattle.clauses.proofs.clauses.rows.Rows.meet.Goals as goal

pub loop-word-preserved : goal.loop-word-preserved
loop-word-preserved c =
    let w = c.loop-word.word in
    let words = c.loop-word.rows-items in
    let i = c.loop-word.invariant in (
      simp length-set i.0,
      words_more (Meets c.args.clause) c.args.self.now.words words w (get_or words w 0) c.met.result (omega (arith, i.0)) (i.2 w (omega arith)) i.1 c.met.ensures,
      λ k l. let other : k ≢ w = omega arith in get_or-set_other words w k _ 0 other ∙ i.2 k (omega arith),
    )
