use Rattle.std.proofs.Common.{◌<◌, ◌≤◌, length, replicate, None, refl, arith}
use lib.Count.{ones, ones_in}
use Rattle.sets.proofs.Lines.{none_has}
use Rattle.book.specs.declared.rows.LineRow.{LineRow}
use Rattle.book.specs.declared.rows.HoldRow.{HoldRow}
use Rattle.book.proofs.Keeping.{all_kept, distinct_none, each_none}
use Rattle.book.proofs.book.Book.new.Goals as goal

pub invariant_of-result : goal.invariant_of-result
unfolding ones ones_in
invariant_of-result c =
    all_kept (replicate 64 None) (replicate 40 None) (replicate 16 None) 1 1
    (record {
      places = refl;
      next_in_range = omega arith;
      distinct = distinct_none (λ (a : LineRow). a.number) 64;
      given = each_none (λ (a : LineRow). (1 ≤ a.number) × (a.number < 1)) 64;
      worded = each_none (λ (a : LineRow). length a.words ≤ 24) 64;
    })
    (record { places = refl; on_lines = λ n h. absurd (none_has n h); few_unless = omega arith })
    (record {
      places = refl;
      next_in_range = omega arith;
      distinct = distinct_none (λ (h : HoldRow). h.number) 16;
      given = each_none (λ (h : HoldRow). (1 ≤ h.number) × (h.number < 1)) 16;
      on_lines = λ n h. absurd (none_has n h);
    })
