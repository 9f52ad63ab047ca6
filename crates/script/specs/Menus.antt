-- The bytes that answer a list call: a heading, and the words of each menu.
use Rattle.std.specs.Prelude.{ℕ, zero, suc, ◌/◌, ◌%◌, ◌^◌, Bool, cond, List, [], ◌∷◌, ◌++◌, map, take, Some, None, codes, Option, ◌==◌}
use Rattle.std.specs.List.{flat_map}
use Rattle.book.specs.Rows.{at}
use Rattle.book.specs.Contents.{Contents, Statement}
use Rattle.script.specs.Texts.{newline, heading_text}

-- the words of a statement, if there is one
abbrev pub words_of : Option Statement → List ℕ
words_of (Some statement) = statement.words
words_of None = []

-- the words on line n of the book
abbrev pub words_at : Contents → ℕ → List ℕ
words_at book n = words_of (at book.lines n)

-- whether line n is in the set
abbrev pub is_in : ℕ → ℕ → Bool
is_in set n = (set / 2 ^ n) % 2 == 1

-- the lines of the set that lie below n, rising
unfoldable pub lines_below : ℕ → ℕ → List ℕ
lines_below set zero = []
lines_below set (suc n) = cond (is_in set n) (lines_below set n ++ (n ∷ [])) (lines_below set n)

-- words, a mark before each
abbrev pub marked : List ℕ → List (List ℕ) → List ℕ
marked mark [] = []
marked mark (word ∷ words) = mark ++ (word ++ marked mark words)

-- words parted by single marks
abbrev pub parted : List ℕ → List (List ℕ) → List ℕ
parted mark [] = []
parted mark (word ∷ words) = word ++ marked mark words

-- a menu: the words of its lines on one line, lines rising
unfoldable pub menu_text : Contents → ℕ → List ℕ
menu_text book set = parted (codes " ") (map (words_at book) (lines_below set 64)) ++ newline

-- the answer to a list call: how many menus were found, the next guess, the count of guesses, and the menus
abbrev pub listed_text : Contents → List ℕ → ℕ → ℕ → ℕ → List ℕ
listed_text book page menus next guesses =
    heading_text menus next guesses ++ flat_map (menu_text book) (take menus page)
