use Rattle.std.proofs.Common.{◌≡◌, ◌≢◌, ℕ, ◌<◌, length, Some, rules, tests, sym, subst}
use Rattle.std.specs.List.{position}
use Rattle.std.specs.Option.{option_map, MatchOption}
use Rattle.std.proofs.lemmas.Iterator.{YieldsList-from_slice}
use Rattle.std.proofs.lemmas.Iterator.Search.{position_from_yields_List}
use Rattle.book.specs.Rows.{at}
use Rattle.book.proofs.Tables.{numbered_test, numbered_first}
use Rattle.book.proofs.book.search.place_of.Goals as goal

pub returns : goal.returns
returns g c =
    let rows = c.args.rows.now in
    let numbered = g.R.Numbered.numbered in
    let n = c.args.number in
    let first : c.position.result ≡ position (numbered_test numbered n) rows =
    position_from_yields_List _ _ _ _ c.position.ensures.ran (YieldsList-from_slice rows cc) (λ x b q k. search (rules, tests)) in
    subst (λ r. MatchOption r ((i : ℕ) → option_map numbered (at rows i) ≢ Some n) (λ i. (i < length rows) × (option_map numbered (at rows i) ≡ Some n))) (sym first) (numbered_first numbered n rows)
