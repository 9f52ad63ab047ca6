use Rattle.std.proofs.Common.{◌≡◌, ◌<◌, length, get_or, arith, eqb-true, ltb-false}
use Rattle.std.proofs.lemmas.Bool.{eqb-false}
use Rattle.script.proofs.Parsing.{not_empty, no_zero, number_from_digits}
use Rattle.script.proofs.request.number.Goals as goal
use Rattle.script.proofs.request.number.Goals.{in_default-via-then-field-lt2, in_default-via-else-field-lt2+in_default-1}

pub returns-in-empty : goal.returns-in-empty
returns-in-empty c = not_empty c.args.field.now (omega arith)

pub returns-in-empty-2 : goal.returns-in-empty-2
returns-in-empty-2 c = no_zero c.args.field.now (omega (arith, ltb-false)) (omega (arith, eqb-true))

pub returns-in_default : goal.returns-in_default
returns-in_default c =
    let some : 0 < length c.args.field.now = grind arith in
    let lone : get_or c.args.field.now 0 0 ≡ 48 → length c.args.field.now ≡ 1 =
    elim c.in_default.branch [
      | in_default-via-then-field-lt2 w ↦ λ h. grind arith
      | in_default-via-else-field-lt2+in_default-1 w ↦ λ h. absurd (grind (arith, eqb-false))
    ] in
    number_from_digits c.args.field.now c.digits.result some lone c.digits.ensures
