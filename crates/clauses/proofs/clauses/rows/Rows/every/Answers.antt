use Rattle.std.proofs.Common.{◌-◌, ◌/◌, ◌%◌, ◌^◌, sym, subst, arith}
use Rattle.std.proofs.lemmas.Nat.{mod_below}
use Rattle.std.proofs.lemmas.List.{get_or-replicate}
use Rattle.sets.specs.Sets.{Has}
use Rattle.clauses.proofs.Bits.{full_has}
use Rattle.clauses.proofs.clauses.rows.Rows.every.Goals as goal

pub returns : goal.returns
returns c row l =
    (λ _. tt, λ _. subst (λ x. Has x (row % 64)) (sym (get_or-replicate 16 (row / 64) (2 ^ 64 - 1) 0 (omega arith))) (full_has (row % 64) (mod_below row 64 (omega arith))))
