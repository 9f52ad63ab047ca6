-- From what was printed to what was answered.
use Rattle.std.proofs.Common.{◌≡◌, ℕ, ◌+◌, ◌≤◌, List, ◌++◌, length, drop, refl, ap, ◌∙◌, subst, arith}
use Rattle.script.specs.Answering.{Asks, Given, LineAnswer, Said, Starts}
use Rattle.script.specs.Calls.{ScriptFacts}
use Rattle.script.specs.Writing.{Says, Wrote}
use Rattle.script.specs.declared.printer.Printer.{Printer}
use Rattle.script.specs.declared.request.Request.{Request}
use Rattle.script.specs.declared.request.Request.TheVariants.{Step, Write, Strike, Rule, Unrule, List as Listing}
use Rattle.script.specs.declared.session.Session.{Session}
use Rattle.script.specs.declared.session.State.{State}
use Rattle.script.specs.declared.session.State.TheVariants.{Collecting}

pub said : {So : List ℕ → Type 0} {was is : Printer} (text : List ℕ) → So text → Says was text is → Said So was is
said text so says = let short = says.short in record { text = text; so = so; short = omega arith; printed = says.printed }

-- what is said by a printer from a buffer's start on
pub given : {was is : Session} {line before after : List ℕ} {place : ℕ} {start end : Printer} → 32768 ≤ length before → Said (LineAnswer was line place is) start end → (start.buffer.now ≡ before) × (start.at ≡ 0) → end.buffer.now ≡ after → Given was line place is before after end.at
given {before = before} {after = after} {start = start} {end = end} room said begins ends =
    let P : List ℕ → ℕ → List ℕ → Type 0 = λ b at a. Wrote b at said.text a end.at in
    let wrote : P before 0 after = subst (λ b. P b 0 after) begins.0 (subst (λ n. P start.buffer.now n after) begins.1 (subst (P start.buffer.now start.at) ends said.printed.wrote)) in
    let short = said.short in
    let w = wrote.whole (omega arith) in
    let e : 0 + length said.text ≡ end.at = omega (arith, w.place) in
    record {
      room = room;
      text = said.text;
      answer = said.so;
      ends = omega (arith, w.place);
      inside = omega (arith, w.place);
      size = wrote.kept.size;
      bytes = w.bytes ∙ ap (λ n. said.text ++ drop n before) e;
    }

-- any request but a step starts the planner
pub asks_first : (number : ℕ) (facts : ScriptFacts) (place : ℕ) (request : Request) (is : State) (text : List ℕ) → ((needs gives : ℕ) → request ≡ Step needs gives → ⊥) → Starts number facts place request is text → Asks number (Collecting facts) place request is text
asks_first number facts place (Step needs gives) is text other h = absurd (other needs gives refl)
asks_first number facts place (Write line words) is text other h = h
asks_first number facts place (Strike line) is text other h = h
asks_first number facts place (Rule at needs unless gives) is text other h = h
asks_first number facts place (Unrule at) is text other h = h
asks_first number facts place (Listing from) is text other h = h
