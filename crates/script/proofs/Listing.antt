-- How a menu is printed line by line, and a page menu by menu.
use Rattle.std.proofs.Common.{◌≡◌, ℕ, ◌+◌, ◌<◌, ◌≤◌, min, true, false, cond, List, [], ◌∷◌, ◌++◌, map, length, take, codes, sym, refl, ap, ◌∙◌, subst, ⊎_elim, add-one, arith}
use Rattle.std.specs.List.{flat_map}
use Rattle.std.proofs.lemmas.List.{append-nil, append_assoc, map_push, take_all, flat_map_more}
use Rattle.std.proofs.lemmas.Bool.{cases_lt}
use Rattle.std.proofs.lemmas.Bool.Decides.{nat_tests}
use Rattle.sets.specs.Sets.{Has}
use Rattle.script.specs.Menus.{is_in, lines_below, marked, parted}
use Rattle.script.specs.Writing.{Prints}
use Rattle.script.specs.declared.printer.Printer.{Printer}
use Rattle.script.proofs.Writes.{prints_none, prints_then, prints_as}

pub lines_none : (set : ℕ) → lines_below set 0 ≡ []
unfolding lines_below
lines_none set = refl

pub lines_with : (set n : ℕ) → Has set n → lines_below set (n + 1) ≡ lines_below set n ++ (n ∷ [])
unfolding lines_below
lines_with set n h = rw add-one (let e : is_in set n ≡ true = grind (arith, nat_tests) in ap (λ b. cond b (lines_below set n ++ (n ∷ [])) (lines_below set n)) e)

pub lines_without : (set n : ℕ) → (Has set n → ⊥) → lines_below set (n + 1) ≡ lines_below set n
unfolding lines_below
lines_without set n h = rw add-one (let e : is_in set n ≡ false = grind (arith, nat_tests) in ap (λ b. cond b (lines_below set n ++ (n ∷ [])) (lines_below set n)) e)

-- what stands before the words that follow these
abbrev pub gap_after : {X : Type 0} → List ℕ → List X → List ℕ
gap_after mark [] = []
gap_after mark (x ∷ xs) = mark

pub gap_push : {X : Type 0} (mark : List ℕ) (xs : List X) (x : X) → gap_after mark (xs ++ (x ∷ [])) ≡ mark
gap_push mark [] x = refl
gap_push mark (y ∷ ys) x = refl

gap_map : {X Y : Type 0} (mark : List ℕ) (f : X → Y) (xs : List X) → gap_after mark (map f xs) ≡ gap_after mark xs
gap_map mark f [] = refl
gap_map mark f (x ∷ xs) = refl

marked_push : (mark : List ℕ) (ws : List (List ℕ)) (w : List ℕ) → marked mark (ws ++ (w ∷ [])) ≡ marked mark ws ++ (mark ++ w)
marked_push mark [] w = ap (λ v. mark ++ v) (append-nil w)
marked_push mark (v ∷ ws) w =
    ap (λ x. mark ++ x) (ap (λ x. v ++ x) (marked_push mark ws w) ∙ sym (append_assoc v (marked mark ws) (mark ++ w)))
    ∙ sym (append_assoc mark (v ++ marked mark ws) (mark ++ w))

parted_push : (mark : List ℕ) (ws : List (List ℕ)) (w : List ℕ) → parted mark (ws ++ (w ∷ [])) ≡ parted mark ws ++ (gap_after mark ws ++ w)
parted_push mark [] w = append-nil w
parted_push mark (v ∷ ws) w = ap (λ x. v ++ x) (marked_push mark ws w) ∙ sym (append_assoc v (marked mark ws) (mark ++ w))

-- one number more, as its text is joined to those before it
pub parted_more : (mark : List ℕ) (f : ℕ → List ℕ) (ns : List ℕ) (n : ℕ) → parted mark (map f (ns ++ (n ∷ []))) ≡ parted mark (map f ns) ++ (gap_after mark ns ++ f n)
parted_more mark f ns n =
    ap (parted mark) (map_push f ns n)
    ∙ (parted_push mark (map f ns) (f n) ∙ ap (λ g. parted mark (map f ns) ++ (g ++ f n)) (gap_map mark f ns))

-- one line more of a menu: the gap and the line's words
pub menu_more : {a b c d : Printer} {gap : List ℕ} (mark : List ℕ) (f : ℕ → List ℕ) (ns : List ℕ) (n : ℕ) → Prints a (parted mark (map f ns)) b → gap ≡ gap_after mark ns → Prints b gap c → Prints c (f n) d → Prints a (parted mark (map f (ns ++ (n ∷ [])))) d
menu_more mark f ns n so_far is_gap at_gap at_words =
    prints_as (sym (parted_more mark f ns n)) (prints_then so_far (prints_then (prints_as is_gap at_gap) at_words))

-- the texts of these numbers are printed, parted by blanks, and this gap comes next
abbrev pub Listed : Printer → (ℕ → List ℕ) → Printer → List ℕ → List ℕ → Type 0
Listed was f is gap ns = Prints was (parted (codes " ") (map f ns)) is × (gap ≡ gap_after (codes " ") ns)

pub listed_none : (p : Printer) (f : ℕ → List ℕ) (set : ℕ) → Listed p f p [] (lines_below set 0)
listed_none p f set = subst (Listed p f p []) (sym (lines_none set)) (prints_none p, refl)

pub listed_more : {a b c d : Printer} {gap : List ℕ} (f : ℕ → List ℕ) (set n : ℕ) → Listed a f b gap (lines_below set n) → Has set n → Prints b gap c → Prints c (f n) d → Listed a f d (codes " ") (lines_below set (n + 1))
listed_more {a} {b} {c} {d} {gap} f set n so has at_gap at_words =
    subst (Listed a f d (codes " ")) (sym (lines_with set n has)) (menu_more (codes " ") f (lines_below set n) n so.0 so.1 at_gap at_words, sym (gap_push (codes " ") (lines_below set n) n))

pub listed_same : (a b : Printer) (gap : List ℕ) (f : ℕ → List ℕ) (set n : ℕ) → (Has set n → ⊥) → Listed a f b gap (lines_below set n) → Listed a f b gap (lines_below set (n + 1))
listed_same a b gap f set n out so = subst (Listed a f b gap) (sym (lines_without set n out)) so

-- one menu more of a page
pub page_more : {a b c : Printer} (f : ℕ → List ℕ) (xs : List ℕ) (x : ℕ) → Prints a (flat_map f xs) b → Prints b (f x) c → Prints a (flat_map f (xs ++ (x ∷ []))) c
page_more f xs x p q = prints_as (flat_map_more f [] xs x) (prints_then p q)

pub take_min : (n : ℕ) (xs : List ℕ) → take (min n (length xs)) xs ≡ take n xs
take_min n xs = ⊎_elim within beyond (cases_lt n (length xs))
  where
    within : n < length xs → take (min n (length xs)) xs ≡ take n xs
    within h = let e : min n (length xs) ≡ n = omega arith in ap (λ k. take k xs) e

    beyond : length xs ≤ n → take (min n (length xs)) xs ≡ take n xs
    beyond h =
        let e : min n (length xs) ≡ length xs = omega arith in
        ap (λ k. take k xs) e ∙ (take_all (length xs) xs (omega arith) ∙ sym (take_all n xs (omega arith)))
