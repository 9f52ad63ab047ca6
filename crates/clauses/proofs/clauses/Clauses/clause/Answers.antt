use Rattle.std.proofs.Common.{rules, ◌≡◌, [], ◌∷◌, ◌++◌, sym, subst}
use Rattle.clauses.specs.Words.{Narrowed}
use Rattle.clauses.proofs.Masks.{narrowed_more}
use Rattle.clauses.proofs.clauses.Clauses.clause.Goals as goal

pub invariant_of-self-2-clause-narrowed : goal.invariant_of-self-2-clause-narrowed
invariant_of-self-2-clause-narrowed c =
    let f = c.args.self.now in
    let rows = c.meet.new.self.words in
    let pushed : c.try_push.new.self.items ≡ f.told.items ++ c.in_ok-added.added ∷ [] = search rules in
    subst (λ cs. Narrowed cs rows) (sym pushed) (narrowed_more f.told.items c.in_ok-added.added f.met.words rows f.narrowed c.meet.ensures)
