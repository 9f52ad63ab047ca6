use Rattle.std.proofs.Common.{◌≡◌, ℕ, ◌<◌, length, None, is_none, rules, tests, sym, subst}
use Rattle.std.specs.List.{position}
use Rattle.std.specs.Option.{MatchOption}
use Rattle.std.proofs.lemmas.Iterator.{YieldsList-from_slice}
use Rattle.std.proofs.lemmas.Iterator.Search.{position_from_yields_List}
use Rattle.book.specs.Rows.{at, Full}
use Rattle.book.proofs.Tables.{free_first}
use Rattle.book.proofs.book.holds.free_place.Goals as goal

pub returns : goal.returns
returns c =
    let rows = c.args.rows.now in
    let first : c.position.result ≡ position is_none rows =
    position_from_yields_List _ _ _ _ c.position.ensures.ran (YieldsList-from_slice rows cc) (λ x b q k. search (rules, tests)) in
    subst (λ r. MatchOption r ((i : ℕ) → i < length rows → Full rows i) (λ i. (i < length rows) × (at rows i ≡ None))) (sym first) (free_first rows)
