-- How texts are put one after the other.
use Rattle.std.proofs.Common.{◌≡◌, ℕ, ◌≤◌, cond, List, ◌++◌, length, take, is_ok, IfOk, Ok, Err, Result, ap, ◌∙◌, arith}
use Rattle.std.proofs.lemmas.List.{take_all, take-append-le}
use Rattle.stream.specs.Runs.{Appended}

-- a text at a buffer's start, cut out again
pub front : (text rest : List ℕ) {after : List ℕ} {end : ℕ} → after ≡ text ++ rest → end ≡ length text → take end after ≡ text
front text rest {after} {end} e l =
    let le : length text ≤ length text = omega arith in
    ap (λ k. take k after) l ∙ (ap (take (length text)) e ∙ (take-append-le (length text) text rest le ∙ take_all (length text) text le))

-- what an extension leaves, if it was done
pub extended : {X Y : Type 0} (So : List ℕ → Type 0) (before : List ℕ) {after more : List ℕ} (r : Result X Y) → after ≡ cond (is_ok r) (before ++ more) before → (text : List ℕ) → So text → more ≡ text → IfOk r (λ _. Appended So before after)
extended So before (Ok x) e text so same = record { text = text; so = so; whole = e ∙ ap (λ t. before ++ t) same }
extended So before (Err y) e text so same = tt
