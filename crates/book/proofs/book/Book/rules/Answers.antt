use Rattle.std.proofs.Common.{◌^◌, refl, arith}
use lib.Bits.{bit_or}
use Rattle.sets.proofs.Lines.{or_has_right, single_has}
use Rattle.book.specs.Rows.{lines_named}
use Rattle.book.proofs.Tables.{union_at, full_below}
use Rattle.book.proofs.book.Book.rules.Goals as goal

-- the line that a rule gives is filled, so it is below 64
pub returns : goal.returns
returns c = record {
  same = refl;
  lines = λ p r e.
      let b = c.args.self.now in
      let given = or_has_right (bit_or r.needs r.unless) (2 ^ r.gives) r.gives (single_has r.gives) in
      let full = b.rules_on_lines r.gives (union_at lines_named b.tables.rules p r.gives r e given) in
      omega (arith, full_below b.tables.lines r.gives full, b.line_places);
}
