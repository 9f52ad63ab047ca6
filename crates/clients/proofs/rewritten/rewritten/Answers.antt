use Rattle.std.proofs.Common.{◌≡◌, ℕ, ◌-◌, true, replicate, is_ok, Some, None, Ok, Err, Result, sym, refl, ap, ◌∙◌, subst, inl, inr, arith}
use native.Mathlib.Nat.{sub-zero}
use Rattle.std.proofs.lemmas.Result.{err_from_is_err_and}
use Rattle.sets.specs.declared.refusal.Refusal.{Refusal}
use Rattle.facts.specs.Meaning.{bare}
use Rattle.book.specs.Calls.{GoodWords}
use Rattle.laws.specs.World.{World, Event, Step, fresh, wrote, ruled, held, saved, released, unruled, struck}
use Rattle.laws.specs.Runs.{Run}
use Rattle.planner.specs.View.{view, token, hold_answer, release_answer}
use Rattle.planner.specs.declared.planner.Hold.{Hold}
use Rattle.clients.specs.Rewritten.{Session, calls, gives_line}
use Rattle.clients.proofs.Rewriting.{world, statement, no_holds, line_held, line_free, first_hold, line_only, with_rule, Wrote, write_line, put_rule, take_hold, save_hold, give_back, take_rule, strike_line}
use Rattle.clients.proofs.RewritingLaw.{read_gone}
use Rattle.clients.proofs.rewritten.rewritten.Goals as goal
use Rattle.clients.proofs.rewritten.rewritten.Goals.{After-rule, After-hold, After-release, After-unrule, After-strike, After-write-2, After-look}

-- a step from a planner that is known
from : {v w : World} (e : Event) (after : World) → v ≡ w → Step bare v e after → Step bare w e after
from e after same step = subst (λ x. Step bare x e after) same step

-- ---- what each call answered, and the planner after it

after-rule : (c : goal.After-rule) → GoodWords c.args.first.now × (is_ok c.rule.result ≡ true) × (view c.rule.new.self ≡ with_rule (statement 1 c.args.first.now) no_holds 2 1)
after-rule c =
    let first = c.args.first.now in
    let answer = Ok c.in_ok-write.field-0 in
    let new = from (wrote 0 first answer) (view c.write.new.self) c.new-planner.ensures.made c.in_ok-write.ensures.step in
    let written = write_line None no_holds 1 1 (omega arith) first answer (view c.write.new.self) new in
    let step = from (ruled 0 gives_line c.rule.result) (view c.rule.new.self) written.1 c.rule.ensures.step in
    let given = put_rule (statement 1 first) no_holds 2 1 c.rule.result (view c.rule.new.self) step in
    (written.0, given.0, given.1)

pub unwrap-requires : goal.unwrap-requires
unwrap-requires c = (after-rule c).1

after-hold : (c : goal.After-hold) → (is_ok c.hold.result ≡ true) × ((h : Hold) → c.hold.result ≡ Ok h → token h ≡ first_hold) × (view c.hold.new.self ≡ with_rule (statement 1 c.args.first.now) line_held 2 2)
after-hold c =
    let before = after-rule (goal.at.After-hold c).After-rule in
    let step = from (held 1 (hold_answer c.hold.result)) (view c.hold.new.self) before.2 c.hold.ensures.step in
    take_hold (statement 1 c.args.first.now) 2 c.hold.result (view c.hold.new.self) step

pub unwrap-hold-requires : goal.unwrap-hold-requires
unwrap-hold-requires c = (after-hold c).0

pub unwrap-length-requires : goal.unwrap-length-requires
unwrap-length-requires c =
    let before = after-hold (goal.at.unwrap-length-requires c).After-hold in
    let hold = token c.unwrap-hold.result in
    let step = from (saved hold (replicate 7 0) c.save.new.buffer c.save.result) (view c.hold.new.self) before.2 c.save.ensures in
    save_hold (statement 1 c.args.first.now) 2 hold (before.1 c.unwrap-hold.result c.unwrap-hold.ensures) (replicate 7 0) c.save.new.buffer c.save.result (view c.hold.new.self) refl step

after-release : (c : goal.After-release) → (is_ok c.release.result ≡ true) × (view c.release.new.self ≡ with_rule (statement 1 c.args.first.now) line_free 2 2)
after-release c =
    let before = after-hold (goal.at.After-release c).After-hold in
    let hold = token c.unwrap-hold.result in
    let step = from (released hold (release_answer c.release.result)) (view c.release.new.self) before.2 c.release.ensures.step in
    give_back (statement 1 c.args.first.now) 2 hold (before.1 c.unwrap-hold.result c.unwrap-hold.ensures) c.release.result (view c.release.new.self) step

pub unwrap-requires-2 : goal.unwrap-requires-2
unwrap-requires-2 c = (after-release c).0

after-unrule : (c : goal.After-unrule) → (is_ok c.unrule.result ≡ true) × (view c.unrule.new.self ≡ line_only (statement 1 c.args.first.now) line_free 2 2)
after-unrule c =
    let before = after-release (goal.at.After-unrule c).After-release in
    let step = from (unruled 0 c.unrule.result) (view c.unrule.new.self) before.1 c.unrule.ensures.step in
    take_rule (statement 1 c.args.first.now) line_free 2 2 c.unrule.result (view c.unrule.new.self) step

pub unwrap-requires-3 : goal.unwrap-requires-3
unwrap-requires-3 c = (after-unrule c).0

after-strike : (c : goal.After-strike) → (is_ok c.strike.result ≡ true) × (view c.strike.new.self ≡ world None None line_free 2 2)
after-strike c =
    let before = after-unrule (goal.at.After-strike c).After-unrule in
    let step = from (struck 0 c.strike.result) (view c.strike.new.self) before.1 c.strike.ensures.step in
    strike_line (statement 1 c.args.first.now) 2 c.strike.result (view c.strike.new.self) step

pub unwrap-requires-4 : goal.unwrap-requires-4
unwrap-requires-4 c = (after-strike c).0

-- the second write, whatever it answered
second-write : (c : goal.After-write-2) (answer : Result ℕ Refusal) → c.write-2.result ≡ answer → Wrote c.args.second.now answer (view c.write-2.new.self) (world (Some (statement 2 c.args.second.now)) None line_free 3 2)
second-write c answer is =
    let before = after-strike (goal.at.After-write-2 c).After-strike in
    let second = c.args.second.now in
    let made = subst (λ r. Step bare (view c.strike.new.self) (wrote 0 second r) (view c.write-2.new.self)) is c.write-2.ensures.step in
    let step = from (wrote 0 second answer) (view c.write-2.new.self) before.1 made in
    write_line None line_free 2 2 (omega arith) second answer (view c.write-2.new.self) step

pub returns-in_err-write-2 : goal.returns-in_err-write-2
returns-in_err-write-2 c =
    let returned = err_from_is_err_and c.from_residual-in_err-write-2.result c.from_residual-in_err-write-2.ensures.1 in
    let refused = second-write (goal.at.returns-in_err-write-2 c).After-write-2 (Err c.in_err-write-2.field-0.0) c.in_err-write-2.was in
    inr (inr refused.0, rw (returned.1, returned.2) (ap Err refused.1))

-- ---- the nine calls, and the law

session : goal.After-look → Session
session c = record {
  first = c.args.first.now;
  first_answer = c.write.result;
  rule_answer = c.rule.result;
  hold_answer = hold_answer c.hold.result;
  hold = token c.unwrap-hold.result;
  before = replicate 7 0;
  after = c.save.new.buffer;
  save_answer = c.save.result;
  count = c.unwrap-length.result - 0;
  release_answer = release_answer c.release.result;
  unrule_answer = c.unrule.result;
  strike_answer = c.strike.result;
  second = c.args.second.now;
  second_answer = c.write-2.result;
  look_answer = c.look.result;
}

run : (c : goal.After-look) → Run bare (fresh 1) (calls (session c)) (view c.write-2.new.self)
unfolding session
run c = (
  view c.write.new.self,
  from (wrote 0 c.args.first.now c.write.result) _ c.new-planner.ensures.made c.write.ensures.step,
  (
    view c.rule.new.self,
    c.rule.ensures.step,
    (
      view c.hold.new.self,
      c.hold.ensures.step,
      (
        view c.hold.new.self,
        c.save.ensures,
        (
          view c.release.new.self,
          c.release.ensures.step,
          (
            view c.unrule.new.self,
            c.unrule.ensures.step,
            (
              view c.strike.new.self,
              c.strike.ensures.step,
              (
                view c.write-2.new.self,
                c.write-2.ensures.step,
                (view c.write-2.new.self, c.look.ensures, refl),
              ),
            ),
          ),
        ),
      ),
    ),
  ),
)

was-saved : (c : goal.After-look) → c.save.result ≡ Ok (c.unwrap-length.result - 0)
was-saved c = c.unwrap-length.ensures ∙ ap Ok (sym (sub-zero c.unwrap-length.result))

-- the hold was answered, its record saved and the line struck: by the law the look reads it as gone
look-gone : (c : goal.After-look) → c.look.result ≡ Ok (record { current = 0; gone = 1 })
unfolding session
look-gone c =
    let was-held = ap hold_answer c.unwrap-hold.ensures in
    read_gone (session c) was-held (was-saved c) c.unwrap-4.ensures c.new-planner.ensures.law (view c.write-2.new.self) (run c)

-- an answer has one value
one_value : {X E : Type 0} {x y : X} (answer : Result X E) → answer ≡ Ok x → answer ≡ Ok y → x ≡ y
one_value answer p q = cc

pub unwrap-found-requires : goal.unwrap-found-requires
unwrap-found-requires c = ap is_ok (look-gone c)

pub returns : goal.returns
unfolding session
returns c =
    let point = goal.at.returns c in
    let written = second-write point.After-write-2 (Ok c.in_ok-write-2.field-0) c.in_ok-write-2.was in
    let found = one_value c.look.result c.unwrap-found.ensures (look-gone point.After-look) in
    inl (
      _,
      refl,
      (after-rule point.After-rule).0,
      written.0,
      record {
        session = session point.After-look;
        first_is = refl;
        second_is = refl;
        saved_so = was-saved point.After-look;
        struck_so = c.unwrap-4.ensures;
        looked_so = c.unwrap-found.ensures;
        run = run point.After-look;
      },
      found,
    )
