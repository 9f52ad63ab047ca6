use Rattle.std.proofs.Common.{eqb, arith}
use Rattle.std.proofs.lemmas.List.Elements.{contains_decides}
use Rattle.std.proofs.lemmas.Bool.Decides.{nat_tests, Decides-eqb}
use Rattle.script.proofs.RequestReads.{no_parts, write_fields, write_parts}
use Rattle.script.proofs.request.write.Goals as goal
use Rattle.script.proofs.request.write.Goals.{then-is_empty-via-then-is_empty, then-is_empty-via-else-is_empty+then-contains}

pub returns-in_err-line : goal.returns-in_err-line
returns-in_err-line c = rw c.from_residual.ensures (λ request fit e.
    no_parts _ _ c.in_err-line.ensures (write_fields c.args.fields.now request fit e).5)

pub returns-then-is_empty : goal.returns-then-is_empty
returns-then-is_empty c = λ request fit e.
    let p = write_parts c.in_ok-line.ensures request fit e in
    elim c.then-is_empty.branch [
      | then-is_empty-via-then-is_empty w ↦ let taken = w.if-is_empty.true in let some = p.2 in grind (arith, nat_tests)
      | then-is_empty-via-else-is_empty+then-contains w ↦
          let space = (contains_decides eqb Decides-eqb c.in_ok-line.words.now 32 w.contains.result w.contains.ensures.cases).0 w.if-contains.true in
          p.3 space.0 space.1 (space.2 0)
    ]

pub returns-in_err-number : goal.returns-in_err-number
returns-in_err-number c = rw c.from_residual-in_err-number.ensures (λ request fit e.
    let p = write_parts c.in_ok-line.ensures request fit e in
    c.in_err-number.ensures p.0 p.1 p.4)
