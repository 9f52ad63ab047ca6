-- What a book shows: at most 24 bytes of words, copied byte by byte, numbers of one line each, from 1 on, and rules on written lines.
use Rattle.std.proofs.Common.{◌≡◌, ℕ, ◌<◌, ◌≤◌, length, Some, None, Option, sym, refl, ap, ◌∙◌, subst, arith}
use Rattle.std.proofs.lemmas.List.{length-map}
use Rattle.std.specs.Option.{option_map}
use Rattle.sets.specs.Sets.{Has}
use Rattle.book.specs.Rows.{at, Full, lines_named}
use Rattle.book.specs.Contents.{Statement}
use Rattle.book.specs.View.{said, view}
use Rattle.book.specs.declared.book.Book.{Book}
use Rattle.book.specs.declared.rows.LineRow.{LineRow}
use Rattle.book.specs.declared.rows.Rule.{Rule}
use Rattle.book.specs.Calls.{number_at}
use Rattle.sets.proofs.Rows.{some_same, no_some}
use Rattle.book.proofs.Tables.{at_map, at_map_map, full_map, full_from_number, union_at}

pub words_few : (b : Book) (n : ℕ) (s : Statement) → at (view b).lines n ≡ Some s → length s.words ≤ 24
words_few b n s e = by (at b.tables.lines n) refl (sym (at_map said b.tables.lines n) ∙ e)
  where
    by : (o : Option LineRow) → at b.tables.lines n ≡ o → option_map said o ≡ Some s → length s.words ≤ 24
    by None here f = absurd (no_some f)
    by (Some row) here f =
        let few = b.worded n row here in
        let same = ap (λ x. length x.words) (some_same f) in
        omega arith

-- only one line has a number
pub where_one : (b : Book) (number line other : ℕ) → number_at (view b) line ≡ Some number → number_at (view b) other ≡ Some number → line ≡ other
where_one b number line other e f =
    let rows = b.tables.lines in
    let here = sym (at_map_map (λ s. s.number) said rows line) ∙ e in
    b.numbers_distinct line other (full_from_number (λ a. a.number) rows line number here, here ∙ sym (sym (at_map_map (λ s. s.number) said rows other) ∙ f))

-- a line's number is from 1 on and below the next
pub number_given : (b : Book) (line number : ℕ) → number_at (view b) line ≡ Some number → (1 ≤ number) × (number < (view b).next)
number_given b line number e = by (at b.tables.lines line) refl (sym (at_map_map (λ s. s.number) said b.tables.lines line) ∙ e)
  where
    by : (o : Option LineRow) → at b.tables.lines line ≡ o → option_map (λ a. a.number) o ≡ Some number → (1 ≤ number) × (number < b.tables.next)
    by None here f = absurd (no_some f)
    by (Some row) here f = subst (λ n. (1 ≤ n) × (n < b.tables.next)) (some_same f) (b.numbers_given line row here)

-- no line has number 0
pub where_zero : (b : Book) (line number : ℕ) → number ≡ 0 → number_at (view b) line ≡ Some number → ⊥
where_zero b line number zero e = omega (arith, (number_given b line number e).0)

-- every line that a rule names is written
pub rules_written : (b : Book) (p : ℕ) (r : Rule) → at (view b).rules p ≡ Some r → (n : ℕ) → Has (lines_named r) n → Full (view b).lines n
rules_written b p r e n h = full_map said b.tables.lines n ∙ b.rules_on_lines n (union_at lines_named b.tables.rules p n r e h)

pub lines_are : (b : Book) → length (view b).lines ≡ 64
lines_are b = length-map b.tables.lines (option_map said) ∙ b.line_places
