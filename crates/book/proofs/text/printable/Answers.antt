use Rattle.std.proofs.Common.{◌≡◌, ℕ, ◌≤◌, Bool, rules, tests, ltb, ◌&&◌, not, refl, arith}
use Rattle.std.specs.List.{list_all}
use Rattle.std.proofs.lemmas.Bool.Decides.{Decides-at, Decides-and, Decides-not, Decides-ltb, Decides-like}
use Rattle.std.proofs.lemmas.Iterator.{YieldsList-from_slice}
use Rattle.std.proofs.lemmas.Iterator.Search.{all_from_yields_List}
use Rattle.std.proofs.ByRecursion.{Decides-by_and}
use Rattle.book.proofs.text.printable.Goals as goal

abbrev test : ℕ → Bool
test b = not (ltb b 33) && not (ltb 126 b)

pub returns : goal.returns
returns c =
    let every : c.all.result ≡ list_all test c.args.words.now =
    all_from_yields_List _ _ _ _ c.all.ensures.ran (YieldsList-from_slice c.args.words.now cc) (λ x b q k. search (rules, tests)) in
    Decides-at c.all.result _ every
    (Decides-by_and test (λ b. (33 ≤ b) × (b ≤ 126)) (list_all test)
    (λ b. Decides-like _ (λ l. (omega (arith, l.0), omega (arith, l.1))) (λ l. ((λ m. omega (arith, l.0)), λ m. omega (arith, l.1))) (Decides-and _ _ (Decides-not _ (Decides-ltb b 33)) (Decides-not _ (Decides-ltb 126 b))))
    refl (λ _ _. refl) c.args.words.now)
