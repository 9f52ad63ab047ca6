use Rattle.std.proofs.Common.{rules}
use Rattle.script.proofs.Sayings.{given}
use Rattle.script.proofs.session.Session.answer.Goals as goal

pub returns : goal.returns
returns c = given c.if-buffer-lt-ROOM.false c.print.ensures c.new-printer.ensures.start (search rules)
