-- No answer is longer than the buffer's least room.
use Rattle.std.proofs.Common.{◌≡◌, ℕ, zero, suc, ◌*◌, ◌^◌, ◌<◌, ◌≤◌, Bool, true, false, cond, List, [], ◌∷◌, ◌++◌, map, length, take, Some, None, codes, decimal, Option, refl, ap, arith}
use Rattle.std.specs.List.{flat_map}
use Rattle.std.proofs.lemmas.Fmt.{length-decimal-le}
use Rattle.std.proofs.lemmas.List.{length-append, length-take}
use Rattle.book.specs.Contents.{Statement}
use Rattle.book.specs.Rows.{at}
use Rattle.book.specs.View.{view}
use Rattle.book.specs.declared.book.Book.{Book}
use Rattle.book.proofs.Words.{words_few}
use Rattle.script.specs.Menus.{is_in, lines_below, listed_text, marked, menu_text, parted, words_at, words_of}
use Rattle.script.specs.Texts.{counted, heading_text, newline}

decimal_short : (n : ℕ) → n < 2 ^ 64 → length (decimal n) ≤ 20
decimal_short n h = length-decimal-le 20 n (omega arith) (omega arith) h

pub counted_short : (word : List ℕ) (n : ℕ) → n < 2 ^ 64 → length word ≤ 10 → length (counted word n) ≤ 31
counted_short word n h short =
    let d = decimal_short n h in
    omega (arith, length-append word (decimal n ++ newline), length-append (decimal n) newline)

pub heading_short : (menus next guesses : ℕ) → menus < 2 ^ 64 → next < 2 ^ 64 → guesses < 2 ^ 64 → length (heading_text menus next guesses) ≤ 83
heading_short menus next guesses m n g =
    let a = decimal_short menus m in
    let b = decimal_short next n in
    let c = counted_short (codes " of ") guesses g (omega arith) in
    let last = decimal next ++ counted (codes " of ") guesses in
    omega (arith, length-append (decimal menus) (codes " next " ++ last), length-append (decimal next) (counted (codes " of ") guesses))

lines_few : (set n : ℕ) → length (lines_below set n) ≤ n
unfolding lines_below
lines_few set zero = omega arith
lines_few set (suc n) = by_bit (is_in set n) (lines_few set n)
  where
    by_bit : (b : Bool) → length (lines_below set n) ≤ n → length (cond b (lines_below set n ++ (n ∷ [])) (lines_below set n)) ≤ suc n
    by_bit true h = omega (arith, length-append (lines_below set n) (n ∷ []))
    by_bit false h = omega arith

words_short : (book : Book) (n : ℕ) → length (words_at (view book) n) ≤ 24
words_short book n = by (at (view book).lines n) refl
  where
    by : (o : Option Statement) → at (view book).lines n ≡ o → length (words_of o) ≤ 24
    by None e = omega arith
    by (Some s) e = words_few book n s e

marked_short : (f : ℕ → List ℕ) → ((n : ℕ) → length (f n) ≤ 24) → (ns : List ℕ) → length (marked (codes " ") (map f ns)) ≤ 25 * length ns
marked_short f short [] = omega arith
marked_short f short (n ∷ ns) =
    let h = marked_short f short ns in
    let s = short n in
    omega (arith, length-append (f n) (marked (codes " ") (map f ns)))

parted_short : (f : ℕ → List ℕ) → ((n : ℕ) → length (f n) ≤ 24) → (ns : List ℕ) → length (parted (codes " ") (map f ns)) ≤ 25 * length ns
parted_short f short [] = omega arith
parted_short f short (n ∷ ns) =
    let h = marked_short f short ns in
    let s = short n in
    omega (arith, length-append (f n) (marked (codes " ") (map f ns)))

menu_short : (book : Book) (set : ℕ) → length (menu_text (view book) set) ≤ 1601
unfolding menu_text
menu_short book set =
    let h = parted_short (words_at (view book)) (words_short book) (lines_below set 64) in
    let few = lines_few set 64 in
    omega (arith, length-append (parted (codes " ") (map (words_at (view book)) (lines_below set 64))) newline)

joined_short : (book : Book) (sets : List ℕ) → length (flat_map (menu_text (view book)) sets) ≤ 1601 * length sets
joined_short book [] = omega arith
joined_short book (set ∷ sets) =
    let h = joined_short book sets in
    let s = menu_short book set in
    omega (arith, length-append (menu_text (view book) set) (flat_map (menu_text (view book)) sets))

pub page_short : (book : Book) (page : List ℕ) (menus next guesses : ℕ) → length (heading_text menus next guesses) ≤ 83 → length page ≤ 16 → length (listed_text (view book) page menus next guesses) ≤ 32768
page_short book page menus next guesses h full =
    let j = joined_short book (take menus page) in
    let few : length (take menus page) ≤ 16 = omega (arith, length-take menus page) in
    omega (arith, length-append (heading_text menus next guesses) (flat_map (menu_text (view book)) (take menus page)))

pub short_as : {t u : List ℕ} {n : ℕ} → t ≡ u → length t ≤ n → length u ≤ n
short_as e h = omega (arith, ap length e)
