use Rattle.std.proofs.Common.{◌≡◌, ℕ, rules, sym, subst}
use Rattle.sets.proofs.Lines.{has_below}
use Rattle.sets.proofs.Walking.{Walked, walk_start, walk_to, walk_on, walk_end}
use Rattle.clauses.specs.Rows.{MeetsSense}
use Rattle.clauses.specs.Told.{clauses_of, sense_of}
use Rattle.clauses.specs.Words.{InTable, TableOf}
use Rattle.clauses.specs.Deciding.{table_from_narrowed}
use Rattle.clauses.proofs.Masks.{LeftBelow, left_none, left_more, left_same}
use Rattle.clauses.proofs.clauses.Clauses.left.Goals as goal

pub loop-line-init : goal.loop-line-init
loop-line-init c =
    let f = c.args.self.now in
    let set = c.args.set in
    let all : c.into_iter-line-iterator.result.left ≡ set = search rules in
    let none = left_none (clauses_of f) (sense_of f) set 0 f.met.words (table_from_narrowed (clauses_of f) f.met.words f.narrowed) in
    let so = λ (k : ℕ). TableOf (LeftBelow (clauses_of f) (sense_of f) set k) f.met.words in
    subst (Walked so set) (sym all) (walk_start so set none)

pub loop-line-preserved : goal.loop-line-preserved
loop-line-preserved c =
    let f = c.args.self.now in
    let set = c.args.set in
    let line = c.in-Some.line in
    let rows = c.loop-line.rows.words in
    let met = c.meet_sense.new.self.words in
    let so = λ (k : ℕ). TableOf (LeftBelow (clauses_of f) (sense_of f) set k) rows in
    let at = walk_to so set (λ k out p. left_same (clauses_of f) (sense_of f) set k rows p out) _ line _ c.loop-line.invariant c.in-Some.ensures.steps in
    let more = left_more (clauses_of f) (sense_of f) set line rows met at.1 at.0 (subst (λ o. TableOf (λ row. InTable rows row × MeetsSense o row) met) c.sense_of.ensures c.meet_sense.ensures) in
    walk_on so (λ k. TableOf (LeftBelow (clauses_of f) (sense_of f) set k) met) set _ line _ c.ranges.set.fits c.loop-line.invariant c.in-Some.ensures.steps more

pub returns : goal.returns
returns c row r =
    let f = c.args.self.now in
    let set = c.args.set in
    let rows = c.loop-line.rows.words in
    let so = λ (k : ℕ). TableOf (LeftBelow (clauses_of f) (sense_of f) set k) rows in
    let all = walk_end so set (λ k out p. left_same (clauses_of f) (sense_of f) set k rows p out) _ _ c.loop-line.invariant c.in-None.ensures.steps row r in (
      (λ h. let m = all.0 h in record { is_row = r; clauses_met = m.0; senses_met = λ n i. m.1 n (has_below set n c.ranges.set.fits i) i }),
      λ left. all.1 (left.clauses_met, λ n _ i. left.senses_met n i),
    )
