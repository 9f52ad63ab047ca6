use Rattle.std.proofs.Common.{rules, ◌≡◌, ℕ, true, is_some}
use Rattle.clauses.specs.Rows.{SensedLines, atom_count}
use Rattle.clauses.specs.Told.{clauses_of, sense_of}
use Rattle.clauses.specs.Entailing.{computed_names, same_by, sense_on_lines}
use Rattle.clauses.proofs.Masks.{exactly_where}
use Rattle.clauses.proofs.clauses.asked.ClausesFacts.names.Goals as goal

pub returns : goal.returns
returns c =
    let f = c.args.self.now in
    let on = sense_on_lines f in
    let sensed = λ (n : ℕ). is_some (sense_of f n) ≡ true in
    let all : SensedLines (sense_of f) c.lines_where.result =
    exactly_where sensed _ on (λ n h. let said = c.lines_where.ensures.has n h in search rules) (λ n l out. let said = c.lines_where.ensures.lacks n l out in search rules) in
    record { computed = same_by sensed _ _ all (computed_names atom_count (clauses_of f) (sense_of f) on); sensed = all }
