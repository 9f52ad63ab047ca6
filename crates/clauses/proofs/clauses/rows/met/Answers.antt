use Rattle.std.proofs.Common.{◌≡◌, ◌^◌, ◌<◌, ◌∙◌, Decides, sym, subst, arith}
use Rattle.std.proofs.lemmas.Bool.Decides.{not_from_Decides}
use Rattle.sets.specs.Sets.{Has}
use Rattle.clauses.specs.Words.{WordOf}
use Rattle.clauses.specs.Rows.{IsClause, atom_count}
use Rattle.clauses.proofs.Masks.{MeetsBelow, MeetsYes, MeetsEither, below_more, below_all, word_more, word_same, word_not}
use Rattle.clauses.proofs.clauses.rows.met.Goals as goal
use Rattle.clauses.proofs.clauses.rows.met.Goals.{then-has, else-has, then-has-2, else-has-2}

pub loop-atom-preserved : goal.loop-atom-preserved
loop-atom-preserved c =
    let clause = c.args.clause in
    let a = c.loop-atom.atom in
    let w = c.args.word in
    let first : Decides c.has.result (Has clause.first a) = subst (λ s. Decides c.has.result (Has s a)) (c.from-first.ensures ∙ c.first.ensures.value) c.has.ensures in
    let second : Decides c.has-in-loop-atom.result (Has clause.second a) = subst (λ s. Decides c.has-in-loop-atom.result (Has s a)) (c.from-second.ensures ∙ c.second.ensures.value) c.has-in-loop-atom.ensures in
    let yes : WordOf (MeetsYes clause a) w c.if-has.rows =
    elim c.if-has.branch [
      | then-has v ↦ subst (WordOf (MeetsYes clause a) w) (sym v.rows-is) (word_more (MeetsBelow clause a) (λ row. Has row a) (Has clause.first a) w _ _ c.loop-atom.invariant (first.0 v.if-has.true) c.yes-yes.ensures)
      | else-has v ↦ subst (WordOf (MeetsYes clause a) w) (sym v.rows-is) (word_same (MeetsBelow clause a) (λ row. Has row a) (Has clause.first a) w _ c.loop-atom.invariant (not_from_Decides c.has.result first v.if-has.false))
    ] in
    let no : WordOf (MeetsEither clause a) w c.if-has-2.rows =
    elim c.if-has-2.branch [
      | then-has-2 v ↦ subst (WordOf (MeetsEither clause a) w) (sym v.rows-is)
          (word_more (MeetsYes clause a) (λ row. Has row a → ⊥) (Has clause.second a) w _ _ yes (second.0 v.if-has-2.true) (word_not (λ row. Has row a) w c.yes-yes.result (omega arith) c.yes-yes.ensures))
      | else-has-2 v ↦ subst (WordOf (MeetsEither clause a) w) (sym v.rows-is) (word_same (MeetsYes clause a) (λ row. Has row a → ⊥) (Has clause.second a) w _ yes (not_from_Decides c.has-in-loop-atom.result second v.if-has-2.false))
    ] in
    below_more clause a w c.if-has-2.rows no

pub returns : goal.returns
returns c =
    let clause = c.args.clause in
    let done : c.loop-atom.atom ≡ atom_count = omega arith in
    let fits : IsClause atom_count clause = (
      subst (λ s. s < 2 ^ atom_count) c.first.ensures.value c.first.ensures.fits,
      subst (λ s. s < 2 ^ atom_count) c.second.ensures.value c.second.ensures.fits,
    ) in
    below_all clause atom_count c.args.word c.loop-atom.rows fits (subst (λ k. WordOf (MeetsBelow clause k) c.args.word c.loop-atom.rows) done c.loop-atom.invariant)
