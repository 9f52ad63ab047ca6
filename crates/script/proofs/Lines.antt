-- The first line end from a place on.
use Rattle.std.proofs.Common.{◌≡◌, ℕ, ◌+◌, ◌-◌, ◌<◌, ◌≤◌, ◌==◌, min, not, Bool, true, false, cond, List, length, get_or, drop, Some, None, Option, MatchOption, sym, refl, ap, ◌∙◌, subst, ltb, ltb-false, arith}
use Rattle.std.specs.List.{position_or_len}
use Rattle.std.proofs.lemmas.List.{get_or-drop, length-drop}
use Rattle.std.proofs.lemmas.List.Sums.{fails_before_first, passes_at_first, prefix_len-le-length}
use Rattle.std.proofs.lemmas.Bool.Decides.{nat_tests}
use Rattle.script.specs.Lines.{Bounded}

abbrev pub is_end : ℕ → Bool
is_end b = b == 10

-- where a search from `from` on leads, which finds a place of the rest or none
place_found : {At : ℕ → Type 0} (n from total end p : ℕ) (r : Option ℕ) → r ≡ cond (ltb p n) (Some p) None → p ≤ n → from + n ≡ total → MatchOption r (end ≡ total) At → ((i : ℕ) → At i → end ≡ from + i) → end ≡ from + p
place_found {At} n from total end p r found short whole at there =
    let P : Option ℕ → Type 0 = λ o. MatchOption o (end ≡ total) At in by (ltb p n) refl (subst P found at)
  where
    by : (b : Bool) → ltb p n ≡ b → MatchOption (cond b (Some p) None) (end ≡ total) At → end ≡ from + p
    by true e h = there p h
    by false e h = omega (arith, ltb-false, e)

pub bounded : {At : ℕ → Type 0} (input : List ℕ) (from end next : ℕ) (r : Option ℕ) → from < length input → r ≡ cond (ltb (position_or_len is_end (drop from input)) (length (drop from input))) (Some (position_or_len is_end (drop from input))) None → MatchOption r (end ≡ length input) At → ((i : ℕ) → At i → end ≡ from + i) → next ≡ min (length input) (end + 1) → Bounded input from end next
bounded input from end next r inside found at there onward = record {
  begins = omega (arith, place);
  inside = omega (arith, place, short, l);
  clear = λ k low high e.
      let fails = fails_before_first is_end rest (k - from) 0 (omega (arith, place)) in
      let there : from + (k - from) ≡ k = omega arith in
      let same = get_or-drop from input (k - from) 0 ∙ ap (λ i. get_or input i 0) there in
      grind (arith, nat_tests);
  ends = λ h.
      let passes = passes_at_first is_end rest 0 (omega (arith, place, l)) in
      let same = get_or-drop from input first 0 ∙ ap (λ i. get_or input i 0) (sym place) in
      grind (arith, nat_tests);
  onward = omega (arith, onward);
  further = omega (arith, onward, place);
}
  where
    rest : List ℕ
    rest = drop from input

    first : ℕ
    first = position_or_len is_end rest

    l : length rest ≡ length input - from
    l = length-drop from input

    short : first ≤ length rest
    short = prefix_len-le-length (λ b. not (is_end b)) rest

    place : end ≡ from + first
    place = place_found (length rest) from (length input) end first r found short (omega (arith, l)) at there
