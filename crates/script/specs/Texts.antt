-- The bytes of the answers.
use Rattle.std.specs.Prelude.{ℕ, List, [], ◌∷◌, ◌++◌, Ok, Err, codes, decimal, Result}
use Rattle.sets.specs.Grounds.{number_of}
use Rattle.sets.specs.declared.refusal.Refusal.{Refusal}

-- the byte that ends a line
abbrev pub newline : List ℕ
newline = 10 ∷ []

-- a word, and a number that ends the line
abbrev pub counted : List ℕ → ℕ → List ℕ
counted word n = word ++ (decimal n ++ newline)

abbrev pub bad_text : ℕ → List ℕ
bad_text place = counted (codes "bad ") place

abbrev pub no_text : Refusal → List ℕ
no_text why = counted (codes "no ") (number_of why)

abbrev pub done_text : Result (Unit {0}) Refusal → List ℕ
done_text (Ok _) = codes "ok" ++ newline
done_text (Err why) = no_text why

abbrev pub written_text : Result ℕ Refusal → List ℕ
written_text (Ok n) = counted (codes "number ") n
written_text (Err why) = no_text why

abbrev pub heading_text : ℕ → ℕ → ℕ → List ℕ
heading_text menus next guesses =
    codes "menus " ++ (decimal menus ++ (codes " next " ++ (decimal next ++ counted (codes " of ") guesses)))
