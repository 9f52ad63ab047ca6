use Rattle.std.proofs.Common.{◌≡◌, ◌*◌, ◌%◌, ◌^◌, inl, inr, ⊎_elim, arith}
use Rattle.std.proofs.lemmas.Nat.{one_shl}
use Rattle.sets.proofs.Lines.{or_has, or_has_left, or_has_right, single_has, single_only}
use Rattle.sets.proofs.with.Goals as goal

pub returns : goal.returns
returns c =
    let shift : (1 * 2 ^ c.args.line) % 2 ^ 64 ≡ 2 ^ c.args.line = one_shl c.args.line 64 (omega arith) in
    simp shift (record {
      old = λ n h. or_has_left c.args.set (2 ^ c.args.line) n h;
      new = λ _. or_has_right c.args.set (2 ^ c.args.line) c.args.line (single_has c.args.line);
      only = λ n h. ⊎_elim inl (λ k. inr (single_only c.args.line n k)) (or_has c.args.set (2 ^ c.args.line) n h);
    })
