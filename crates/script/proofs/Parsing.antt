-- Numbers and fields as a reader takes them apart.
use Rattle.std.proofs.Common.{◌≡◌, ℕ, zero, suc, ◌+◌, ◌-◌, ◌*◌, ◌^◌, ◌<◌, ◌≤◌, true, ◌&&◌, List, [], ◌∷◌, ◌++◌, length, get_or, Some, None, decimal, Option, sym, refl, ap, ◌∙◌, subst, ⊎_elim, arith, rules, MatchOption}
use Rattle.std.specs.Char.{is_ascii_digit}
use Rattle.std.specs.Str.{all_ascii_digits}
use Rattle.std.proofs.lemmas.Fmt.{decimal_digit, decimal_nonempty, first_decimal, digits_decimal, digits_value-decimal, decimal-digits_value}
use Rattle.std.proofs.lemmas.Str.Parse.{IsNumeralModel, numerals_by_fold, not_in_digits, tells_all_ascii_digits}
use Rattle.std.proofs.lemmas.Bool.{cases_lt}
use Rattle.std.proofs.lemmas.Bool.Decides.{nat_tests}
use Rattle.script.specs.Reading.{Lacks, ReadsNumber, Short, value_after}

pub numerals : IsNumeralModel (λ ds. all_ascii_digits ds ≡ true) (value_after 0)
numerals = numerals_by_fold _ (search rules) value_after (search rules)

-- what is read after a number is not below it
pub value_grows : (n : ℕ) (cs : List ℕ) → n ≤ value_after n cs
value_grows n [] = omega arith
value_grows n (c ∷ cs) = let h = value_grows (10 * n + (c - 48)) cs in omega arith

pub digits_first : (c : ℕ) (cs : List ℕ) → all_ascii_digits (c ∷ cs) ≡ true → (48 ≤ c) × (c ≤ 57)
digits_first c cs h = (tells_all_ascii_digits.parts c cs h).0

pub digits_rest : (c : ℕ) (cs : List ℕ) → 48 ≤ c → c ≤ 57 → all_ascii_digits (c ∷ cs) ≡ all_ascii_digits cs
digits_rest c cs low high = let e : is_ascii_digit c ≡ true = grind (arith, nat_tests) in ap (λ b. b && all_ascii_digits cs) e

pub short_fits : (n : ℕ) → Short n → n < 2 ^ 64
short_fits n h = omega arith

-- the text of a number has a byte, and begins with no needless zero
pub not_empty : (field : List ℕ) → length field ≤ 0 → (n : ℕ) → Short n → field ≡ decimal n → ⊥
not_empty field none n short e = omega (arith, decimal_nonempty n (short_fits n short), ap length e)

pub no_zero : (field : List ℕ) → 1 < length field → get_or field 0 0 ≡ 48 → (n : ℕ) → Short n → field ≡ decimal n → ⊥
no_zero field long first n short e = ⊎_elim above is_zero (cases_lt 0 n)
  where
    above : 0 < n → ⊥
    above h = omega (arith, first_decimal n h (short_fits n short), ap (λ x. get_or x 0 0) e)

    is_zero : n ≤ 0 → ⊥
    is_zero h = let z : n ≡ 0 = omega arith in omega (arith, ap length (e ∙ (ap decimal z ∙ decimal_digit 0 (omega arith))))

pub number_from_digits : (field : List ℕ) (r : Option ℕ) → 0 < length field → (get_or field 0 0 ≡ 48 → length field ≡ 1) → MatchOption r (all_ascii_digits field ≡ true → value_after 0 field < 100000 → ⊥) (λ n. (all_ascii_digits field ≡ true) × (n ≡ value_after 0 field) × (n < 100000)) → ReadsNumber field r
number_from_digits field (Some n) some lone h =
    let v : value_after 0 field < 2 ^ 64 = omega (arith, h.1, h.2) in
    (h.2, sym (ap decimal h.1 ∙ decimal-digits_value numerals field h.0 some lone v))
number_from_digits field None some lone h = λ n short e.
    let P : List ℕ → Type 0 = λ x. all_ascii_digits x ≡ true in
    let all = subst P (sym e) (digits_decimal numerals n (short_fits n short)) in
    h all (omega (arith, ap (value_after 0) e, digits_value-decimal numerals n (short_fits n short)))

-- marks

pub lacks_none : (mark : ℕ) → Lacks mark []
lacks_none mark k h e = omega arith

pub lacks_first : (mark x : ℕ) (xs : List ℕ) → Lacks mark (x ∷ xs) → x ≡ mark → ⊥
lacks_first mark x xs l e = l 0 (omega arith) e

pub lacks_rest : (mark x : ℕ) (xs : List ℕ) → Lacks mark (x ∷ xs) → Lacks mark xs
lacks_rest mark x xs l k h e = l (suc k) (omega arith) e

pub lacks_cons : (mark x : ℕ) (xs : List ℕ) → (x ≡ mark → ⊥) → Lacks mark xs → Lacks mark (x ∷ xs)
lacks_cons mark x xs n l zero h e = n e
lacks_cons mark x xs n l (suc k) h e = l k (omega arith) e

pub lacks_append : (mark : ℕ) (xs ys : List ℕ) → Lacks mark xs → Lacks mark ys → Lacks mark (xs ++ ys)
lacks_append mark [] ys l m = m
lacks_append mark (x ∷ xs) ys l m = lacks_cons mark x (xs ++ ys) (lacks_first mark x xs l) (lacks_append mark xs ys (lacks_rest mark x xs l) m)

pub lacks_not : (mark : ℕ) (xs ys : List ℕ) → Lacks mark (xs ++ (mark ∷ ys)) → ⊥
lacks_not mark [] ys l = lacks_first mark mark ys l refl
lacks_not mark (x ∷ xs) ys l = lacks_not mark xs ys (lacks_rest mark x (xs ++ (mark ∷ ys)) l)

pub decimal_lacks : (n mark : ℕ) → Short n → mark < 48 → Lacks mark (decimal n)
decimal_lacks n mark h low = not_in_digits numerals (decimal n) mark (digits_decimal numerals n (short_fits n h)) (λ k. omega arith)

-- there is one way to part a text at its first mark
pub one_parting : (mark : ℕ) (a b c d : List ℕ) → Lacks mark a → Lacks mark c → a ++ (mark ∷ b) ≡ c ++ (mark ∷ d) → (a ≡ c) × (b ≡ d)
one_parting mark [] b [] d l m e = (refl, cc)
one_parting mark [] b (y ∷ c) d l m e = absurd (lacks_first mark y c m (cc))
one_parting mark (x ∷ a) b [] d l m e = absurd (lacks_first mark x a l (cc))
one_parting mark (x ∷ a) b (y ∷ c) d l m e =
    let same : x ≡ y = cc in
    let on : a ++ (mark ∷ b) ≡ c ++ (mark ∷ d) = cc in
    let p = one_parting mark a b c d (lacks_rest mark x a l) (lacks_rest mark y c m) on in
    let first : a ≡ c = p.0 in
    (cc, p.1)
