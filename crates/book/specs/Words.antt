-- Words that may stand on a line, and how a row keeps them.
use Rattle.std.specs.Prelude.{◌≡◌, ℕ, ◌-◌, ◌≤◌, List, [], ◌∷◌, ◌++◌, length, take, replicate}
use Rattle.std.specs.List.{AllByRecursion}
use Rattle.std.proofs.Common.{sym, ap, ◌∙◌, arith}
use Rattle.std.proofs.lemmas.List.{length-take-le}
use Rattle.sets.specs.Grounds.{Ground}
use Rattle.sets.specs.declared.refusal.Refusal.TheVariants.{BadWords}

-- words are 1 to 24 bytes, each from 33 to 126
pub record GoodWords (words : List ℕ) : Type 0 where
  pub some : 1 ≤ length words
  pub few : length words ≤ 24
  pub printable : AllByRecursion (λ b. (33 ≤ b) × (b ≤ 126)) words

abbrev pub text_grounds : List ℕ → List Ground
text_grounds words = record { gives = BadWords; when = GoodWords words → ⊥ } ∷ []

-- the words, with zeros behind them to 24 bytes
abbrev pub padded : List ℕ → List ℕ
padded words = words ++ replicate (24 - length words) 0

-- bytes that are padded words are known from the words
pub padded_back : {Row : Type 0} (make : List ℕ → ℕ → Row) (bytes : List ℕ) (len : ℕ) → len ≤ 24 → length bytes ≡ 24 → bytes ≡ padded (take len bytes) → make (padded (take len bytes)) (length (take len bytes)) ≡ make bytes len
padded_back make bytes len few long is =
    ap (λ b. make b (length (take len bytes))) (sym is) ∙ ap (make bytes) (length-take-le len bytes (omega arith))
