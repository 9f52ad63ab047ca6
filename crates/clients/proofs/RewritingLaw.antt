-- By the law: a record of line 0, saved before the line is struck and looked at when it is written again, is read as gone.
use Rattle.std.proofs.Common.{◌≡◌, ℕ, List, Ok, Err, Result, sym, refl, ap, ◌∙◌, subst, arith}
use Rattle.sets.specs.Sets.{Has}
use Rattle.sets.proofs.Lines.{single_only, none_has, same_lines}
use Rattle.facts.specs.Meaning.{bare}
use Rattle.record.specs.declared.fault.Fault.{Fault}
use Rattle.laws.specs.World.{World, Event, fresh, struck, held, saved}
use Rattle.laws.specs.Runs.{Run, Out, Struck}
use Rattle.laws.specs.Law.{Law, ReadRight}
use Rattle.laws.specs.declared.looked.Looked.{Looked}
use Rattle.clients.specs.Rewritten.{Session, calls}

-- a look that was accepted
abbrev found_as : ℕ → ℕ → Result Looked Fault
found_as current gone = Ok (record { current = current; gone = gone })

-- read right, {0} whose line was struck has no current line
only_gone : (log : List Event) → Struck log 3 8 0 → (answer : Result Looked Fault) → ReadRight log 3 8 1 answer → answer ≡ found_as 0 1
only_gone log line-struck (Err fault) read = absurd read
only_gone log line-struck (Ok found) read = ap (λ c. found_as c found.gone) none ∙ ap (found_as 0) line
  where
    gone : (n : ℕ) → Has 1 n → Struck log 3 8 n
    gone n h = subst (Struck log 3 8) (sym (single_only 0 n h)) line-struck

    none : found.current ≡ 0
    none = same_lines found.current 0 (λ n h. let c = read.0 n h in absurd (c.1 (gone n c.0))) (λ n h. absurd (none_has n h))

    line : found.gone ≡ 1
    line = same_lines found.gone 1 (λ n h. (read.2 n h).0) (λ n h. read.3 n h (gone n h))

-- the hold was answered, its record saved and the line struck
module _ (s : Session) (was-held : s.hold_answer ≡ Ok s.hold) (was-saved : s.save_answer ≡ Ok s.count) (was-struck : s.strike_answer ≡ Ok tt) where
  out : Out (calls s) 3 s.hold 1
  out = record { call = 2; event = held 1 (Ok s.hold); earlier = omega arith; here = ap (held 1) was-held; did = refl; not_since = λ k e a b c u. omega arith }

  line_gone : Struck (calls s) 3 8 0
  line_gone = record { call = 6; event = struck 0 (Ok tt); later = omega arith; earlier = omega arith; here = ap (struck 0) was-struck; did = refl }

  pub read_gone : Law bare 1 → (end : World) → Run bare (fresh 1) (calls s) end → s.look_answer ≡ Ok (record { current = 0; gone = 1 })
  read_gone law end run =
      let kept = (law (calls s) end run).records.kept in
      let right = kept 3 8 s.hold 1 s.before s.after s.count s.look_answer (ap (saved s.hold s.before s.after) was-saved) out (omega arith) refl in
      only_gone (calls s) line_gone s.look_answer right
