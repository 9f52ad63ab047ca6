use Rattle.std.proofs.Common.{◌^◌, eqb, sym, subst, inl, inr, ⊎_elim}
use lib.Bits.{bit_or}
use Rattle.std.proofs.lemmas.Bool.Decides.{Decides-or, Decides-eqb, Decides-like}
use Rattle.sets.specs.Sets.{Has}
use Rattle.sets.proofs.Lines.{or_has, or_has_left, or_has_right, single_has, single_only}
use Rattle.book.proofs.book.read.RuleOfLines.has.Goals as goal

pub returns : goal.returns
returns c =
    let r = c.args.self.now in
    let line = c.args.line in
    let both = bit_or r.needs r.unless in
    Decides-like _
    (⊎_elim (or_has_left both (2 ^ r.gives) line) (λ e. or_has_right both (2 ^ r.gives) line (subst (Has (2 ^ r.gives)) e (single_has r.gives))))
    (λ h. ⊎_elim inl (λ k. inr (sym (single_only r.gives line k))) (or_has both (2 ^ r.gives) line h))
    (Decides-or c.has.result (eqb r.gives line) c.has.ensures (Decides-eqb r.gives line))
