use Rattle.std.proofs.Common.{◌<◌, rules, ⊎_elim, arith}
use Rattle.sets.specs.Sets.{Has}
use Rattle.sets.proofs.Lines.{has_or_not}
use Rattle.book.specs.View.{view}
use Rattle.book.proofs.Tables.{full_below}
use Rattle.book.proofs.Words.{lines_are}
use Rattle.book.proofs.book.Book.written.Goals as goal

pub returns : goal.returns
returns c n =
    let b = c.args.self.now in
    let s = c.lines_where.result in (
      λ h. search rules,
      λ full.
          let below : n < 64 = omega (arith, full_below (view b).lines n full, lines_are b) in
          let missed = λ (out : Has s n → ⊥). c.lines_where.ensures.lacks n below out in
          ⊎_elim (λ h. h) (λ z. absurd (let m = missed (λ h. omega arith) in search rules)) (has_or_not s n),
    )
