use Rattle.std.proofs.Common.{sym, ◌∙◌, arith, eqb-true}
use Rattle.script.proofs.SetReads.{empty_text, one_byte}
use Rattle.script.proofs.request.set.Goals as goal

pub returns-in-46 : goal.returns-in-46
returns-in-46 c = (omega arith, one_byte 46 c.args.field.now (omega arith) (omega (arith, eqb-true)) ∙ sym empty_text)
