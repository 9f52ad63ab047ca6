use Rattle.std.proofs.Common.{rules, true, false, ap, ◌∙◌}
use Rattle.std.specs.Slice.Iter.{iter_rest}
use Rattle.std.proofs.lemmas.Iterator.{cases_from_all, YieldsList-from_slice}
use Rattle.std.proofs.lemmas.Iterator.Consumers.{YieldsList-from_enumerate}
use Rattle.clauses.specs.Rows.{Meets}
use Rattle.clauses.proofs.Masks.{WordAnswer, all_from_words}
use Rattle.clauses.proofs.clauses.rows.Rows.all_meet.Goals as goal

pub returns : goal.returns
returns c =
    let words = c.args.self.now.words in
    let meets = Meets c.args.clause in
    all_from_words meets words c.args.self.now.whole c.all.result
    (cases_from_all _ _ _ (WordAnswer meets true) (WordAnswer meets false) c.all.ensures.ran
    (YieldsList-from_enumerate (YieldsList-from_slice words (ap iter_rest c.enumerate.ensures.source ∙ c.iter.ensures.rest)) c.enumerate.ensures.count)
    (λ x q k. search rules) (λ x q k. search rules))
