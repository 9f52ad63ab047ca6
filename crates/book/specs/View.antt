-- How the tables are seen: what a book holds, read off its rows.
use Rattle.std.specs.Prelude.{ℕ, cond, List, [], ◌∷◌, map, Some, None, Option, ◌==◌}
use Rattle.std.specs.Option.{option_map}
use Rattle.book.specs.Contents.{Contents, Statement, Held}
use Rattle.book.specs.declared.rows.LineRow.{LineRow}
use Rattle.book.specs.declared.rows.HoldRow.{HoldRow}
use Rattle.book.specs.declared.rows.Tables.{Tables}
use Rattle.book.specs.declared.book.Book.{Book}

abbrev pub said : LineRow → Statement
said row = record { number = row.number; words = row.words }

-- the hold of this number, in a table where no two have one number
abbrev pub out_at : List (Option HoldRow) → ℕ → Option Held
out_at [] n = None
out_at (None ∷ rows) n = out_at rows n
out_at (Some h ∷ rows) n = cond (h.number == n) (Some (record { lines = h.lines })) (out_at rows n)

abbrev pub seen : Tables → Contents
seen t = record {
  lines = map (option_map said) t.lines;
  rules = t.rules;
  holds = λ n. out_at t.holds n;
  next = t.next;
  next_hold = t.next_hold;
}

abbrev pub view : Book → Contents
view b = seen b.tables
