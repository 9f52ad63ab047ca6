use Rattle.std.proofs.Common.{◌∙◌, rules, tests}
use Rattle.std.proofs.lemmas.Iterator.{YieldsList-from_slice}
use Rattle.std.proofs.lemmas.Iterator.Search.{position_from_yields_List}
use Rattle.std.proofs.lemmas.List.{take_rest}
use Rattle.script.proofs.Lines.{is_end, bounded}
use Rattle.script.proofs.next_line.Goals as goal

pub returns : goal.returns
returns c =
    let found = position_from_yields_List is_end _ _ c.position-found.result c.position-found.ensures.ran (YieldsList-from_slice _ (c.iter.ensures.rest ∙ take_rest c.args.input.now c.args.from)) (λ x b q k. search (rules, tests)) in
    bounded c.args.input.now c.args.from c.map_or-end.result c.min.result c.position-found.result (search rules) found c.map_or-end.ensures (λ i at. search rules) c.min.ensures
