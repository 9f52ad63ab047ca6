use Rattle.std.proofs.Common.{◌+◌, sym, ◌∙◌, subst, arith}
use Rattle.std.proofs.lemmas.Bool.Decides.{not_from_Decides}
use Rattle.sets.specs.Sets.{Within}
use Rattle.facts.specs.Closure.{Passed}
use Rattle.sets.proofs.Rows.{no_some, some_same}
use Rattle.laws.specs.Menus.{Open}
use Rattle.planner.proofs.Rounds.{ObeysBelow, round_start, round_fires, round_rests, round_all}
use Rattle.planner.proofs.tries.Tries.round.Goals as goal
use Rattle.planner.proofs.tries.Tries.round.Goals.{in-Some+then-fires, in-Some+else-fires, in_default}

pub loop-row-init : goal.loop-row-init
loop-row-init g c = round_start c.args.self.now.rules.now c.args.guess c.args.set (omega arith)

pub loop-row-preserved : goal.loop-row-preserved
loop-row-preserved g c =
    let rules = c.args.self.now.rules.now in
    let guess = c.args.guess in
    let i = c.loop-row.row-index in
    let start = c.args.set in
    let next = Passed (ObeysBelow rules guess (i + 1)) start in
    elim c.match-row.branch [
      | in-Some+then-fires w ↦
          subst next (sym w.set-is)
          (round_fires rules guess i start c.loop-row.set w.with-set.result w.in-Some.rule c.loop-row.invariant w.in-Some.is (w.fires.ensures.0 w.if-fires.true) w.with-set.type_inv w.with-set.ensures.old (w.with-set.ensures.new (c.args.self.now.gives_lines i w.in-Some.rule w.in-Some.is)) w.with-set.ensures.only)
      | in-Some+else-fires w ↦
          subst next (sym w.set-is)
          (round_rests rules guess i start c.loop-row.set c.loop-row.invariant
          (λ r here fires. not_from_Decides w.fires.result w.fires.ensures w.if-fires.false (subst (λ x. Open x guess × Within x.needs c.loop-row.set) (some_same (sym here ∙ w.in-Some.is)) fires)))
      | in_default w ↦ subst next (sym w.set-is) (round_rests rules guess i start c.loop-row.set c.loop-row.invariant (λ r here fires. no_some (sym w.in_default.is ∙ here)))
    ]

pub returns : goal.returns
returns g c = round_all c.args.self.now.rules.now c.args.guess c.loop-row.row-index c.args.set c.loop-row.set c.loop-row-test.false c.loop-row.invariant
