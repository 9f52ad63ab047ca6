use Rattle.std.proofs.Common.{◌≡◌, ◌++◌, length, drop, is_some, Some, rules, sym, refl, ap, ◌∙◌, arith}
use Rattle.book.specs.Rows.{at}
use Rattle.book.specs.View.{said, view}
use Rattle.sets.proofs.Rows.{some_same}
use Rattle.book.proofs.book.Book.words.Goals as goal

pub returns : goal.returns
returns c =
    let row = c.in_ok-row.row in
    let line = c.args.line in
    let buffer = c.args.buffer.now in
    let here : at (view c.args.self.now).lines line ≡ Some (said row) = search rules in
    let words = c.as_slice-words.result.now in
    let long = ap length c.as_slice-words.ensures.value in
    let bytes : c.copy_from_slice.new.self ≡ row.words = search rules in (
      (omega arith, ((λ empty. empty (ap is_some here)), ((λ short. omega (arith, short.2, long, ap (λ s. length s.words) (some_same (sym short.1 ∙ here)))), tt))),
      record { statement = said row; here = here; length_is = long; number_is = refl; bytes = ap (λ front. front ++ drop (length words) buffer) bytes },
    )
