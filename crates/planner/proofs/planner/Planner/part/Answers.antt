use Rattle.std.proofs.Common.{get_or, take, sym, subst}
use mathlib.Core.Path.{subst₃}
use Rattle.std.proofs.lemmas.List.{take_more, take_all}
use Rattle.std.proofs.lemmas.Bool.Decides.{not_from_Decides}
use Rattle.laws.specs.World.{Parted}
use Rattle.planner.specs.View.{view}
use Rattle.planner.proofs.Parting.{parted_none, parted_now, parted_gone, rising_below}
use Rattle.planner.proofs.planner.Planner.part.Goals as goal
use Rattle.planner.proofs.planner.Planner.part.Goals.{then-has_now, else-has_now}

pub loop-entry-init : goal.loop-entry-init
loop-entry-init g c = parted_none (view c.args.self.now).book

pub loop-entry-preserved : goal.loop-entry-preserved
loop-entry-preserved g c =
    let book = (view c.args.self.now).book in
    let es = c.args.entries.now in
    let i = c.loop-entry.entry-index in
    let e = get_or es i (record { line = 0; number = 0 }) in
    let below = rising_below 0 es i (record { line = 0; number = 0 }) c.requires c.loop-entry-test.true in
    let more = take_more es i (record { line = 0; number = 0 }) c.loop-entry-test.true in
    elim c.if-has_now.branch [
      | then-has_now w ↦
          let added = w.with-current.ensures in
          subst₃ (Parted book) (sym more) (sym w.current-is) (sym w.gone-is) (parted_now book (take i es) e _ _ c.loop-entry.invariant _ (added.old, added.new below, added.only) (c.has_now.ensures.0 w.if-has_now.true))
      | else-has_now w ↦
          let added = w.with-gone.ensures in
          subst₃ (Parted book) (sym more) (sym w.current-is) (sym w.gone-is) (parted_gone book (take i es) e _ _ c.loop-entry.invariant _ (added.old, added.new below, added.only) (not_from_Decides c.has_now.result c.has_now.ensures w.if-has_now.false))
    ]

pub returns : goal.returns
returns g c =
    subst (λ es. Parted (view c.args.self.now).book es c.loop-entry.current c.loop-entry.gone) (take_all c.loop-entry.entry-index c.args.entries.now c.loop-entry-test.false) c.loop-entry.invariant
