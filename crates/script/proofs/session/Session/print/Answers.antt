use Rattle.std.proofs.Common.{refl, inl, inr}
use Rattle.script.specs.Texts.{bad_text}
use Rattle.script.proofs.Sayings.{said}
use Rattle.script.proofs.session.Session.print.Goals as goal

pub returns-in-None : goal.returns-in-None
returns-in-None c =
    said (bad_text c.args.place) (inr (c.in-None.ensures, refl, refl)) c.bad.ensures

pub returns-in-Some : goal.returns-in-Some
returns-in-Some c =
    let said = c.ask.ensures in
    let read = c.in-Some.ensures in
    record { text = said.text; so = inl (c.in-Some.request, read.0, read.1, said.so); short = said.short; printed = said.printed }
