use Rattle.std.proofs.lemmas.Result.{MatchResult-weaker}
use Rattle.stream.proofs.Running.{read_whole, refused_whole}
use Rattle.stream.proofs.run.Goals as goal

pub returns-then-input-gt-LONGEST : goal.returns-then-input-gt-LONGEST
returns-then-input-gt-LONGEST c =
    let long = c.if-input-gt-LONGEST.true in
    MatchResult-weaker c.refuse.result c.refuse.ensures (λ _ done. refused_whole c.args.input.now long done) (λ _ u. u)

pub returns : goal.returns
returns c =
    let short = c.if-input-gt-LONGEST.false in
    MatchResult-weaker c.answer_lines.result c.answer_lines.ensures (λ _ done. read_whole c.args.input.now short done) (λ _ u. u)
