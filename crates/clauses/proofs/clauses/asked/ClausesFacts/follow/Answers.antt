use Rattle.std.proofs.Common.{rules, ◌⊎◌, bit_or, true, false, arith}
use Rattle.sets.specs.Sets.{Has}
use Rattle.clauses.specs.Rows.{Left, Entailed, Follows, atom_count}
use Rattle.clauses.specs.Told.{clauses_of, sense_of}
use Rattle.clauses.specs.Entailing.{all_meet_some, computed_follows, same_by, sense_on_lines}
use Rattle.clauses.proofs.Masks.{LineAnswer, entailed_at, exactly_where, exactly_or}
use Rattle.clauses.proofs.clauses.asked.ClausesFacts.follow.Goals as goal

pub returns : goal.returns
returns c =
    let f = c.args.self.now in
    let set = c.args.set in
    let added = c.lines_where.result in
    let rows = c.left-left.result.words in
    let entailed = Entailed atom_count (clauses_of f) (sense_of f) set in
    let on = sense_on_lines f in
    let follows = computed_follows atom_count (clauses_of f) (sense_of f) on in
    let decides = entailed_at (clauses_of f) (sense_of f) set rows c.left-left.ensures in
    let all : Follows atom_count (clauses_of f) (sense_of f) set (bit_or set added) =
    exactly_or entailed set added
    (exactly_where entailed added (λ n e. on n (all_meet_some (Left atom_count (clauses_of f) (sense_of f) set) (sense_of f n) e))
    (λ n h. let said = c.lines_where.ensures.has n h in let answer : LineAnswer (sense_of f) rows n true = search rules in decides n true answer)
    (λ n l out. let said = c.lines_where.ensures.lacks n l out in let answer : LineAnswer (sense_of f) rows n false = search rules in decides n false answer)) in
    record { computed = same_by (λ n. Has set n ⊎ entailed n) _ _ all (follows set (omega arith)); follows = all; every = follows }
