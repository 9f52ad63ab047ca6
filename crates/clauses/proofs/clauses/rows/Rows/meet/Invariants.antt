use Rattle.std.proofs.Common.{◌≡◌, ℕ, ◌≤◌, length, get_or}
use Rattle.clauses.specs.Rows.{Meets}
use Rattle.clauses.proofs.Masks.{WordsBelow}
use Rattle.clauses.proofs.clauses.rows.Rows.meet.Given as goal

-- the words so far have the rows that meet the clause, and the others what they had
abbrev pub invariant-loop-word : goal.invariant-loop-word
invariant-loop-word l =
    (length l.rows-items ≡ 16)
    × WordsBelow (Meets l.clause) l.fn.self.words l.word l.rows-items
    × ((k : ℕ) → l.word ≤ k → get_or l.rows-items k 0 ≡ get_or l.fn.self.words k 0)
