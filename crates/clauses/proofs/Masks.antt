-- Words and tables of rows: what and, or and not make of them, one clause more, and the steps of the loops over atoms, words and senses.
use Rattle.std.proofs.Common.{◌≡◌, ℕ, ◌+◌, ◌-◌, ◌*◌, ◌/◌, ◌%◌, ◌^◌, ◌<◌, Bool, true, false, ◌⊎◌, List, [], ◌∷◌, ◌++◌, length, get_or, set, Decides, Option, refl, sym, ap, ◌∙◌, subst, inl, inr, ⊎_elim, arith}
use native.Mathlib.Decide.{dec_lt, ℕ_discrete}
use lib.Bits.{bit_and, bit_or}
use Rattle.std.specs.Bool.{MatchBool}
use Rattle.std.specs.List.{AllWithin, HoldsAt, enumerate_from}
use Rattle.std.proofs.lemmas.Nat.{mod_below}
use Rattle.std.proofs.lemmas.List.{get_or-set_same, get_or-set_other}
use Rattle.std.proofs.lemmas.List.FromFn.{get_or-enumerate_from, length-enumerate_from}
use Rattle.std.proofs.lemmas.Bool.Decides.{Decides-like, not_from_Decides}
use Rattle.sets.specs.Sets.{Has, Within}
use Rattle.sets.proofs.Lines.{has_or_not, has_under, has_below, or_has, or_has_left, or_has_right, and_has, and_has_left, and_has_right}
use Rattle.sets.proofs.Rows.{all_push, all_pushed}
use Rattle.clauses.specs.Rows.{Exactly, IsClause, Meets, MeetsAll, MeetsBy, MeetsSense, AllMeet, Left, Entailed, atom_count}
use Rattle.clauses.specs.Words.{InTable, RowOf, TableOf, WordOf, Narrowed}
use Rattle.clauses.specs.declared.clause.Clause.{Clause}
use Rattle.clauses.proofs.Bits.{other_bit}
use Rattle.clauses.specs.Deciding.{table_from_narrowed, narrowed_from_table}
use Rattle.clauses.specs.Entailing.{all_meet_fewer}

-- ---- words

pub word_or : (P Q : ℕ → Type 0) (w x y : ℕ) → WordOf P w x → WordOf Q w y → WordOf (λ row. P row ⊎ Q row) w (bit_or x y)
word_or P Q w x y p q row e = (
  λ h. ⊎_elim (λ k. inl ((p row e).0 k)) (λ k. inr ((q row e).0 k)) (or_has x y (row % 64) h),
  ⊎_elim (λ k. or_has_left x y (row % 64) ((p row e).1 k)) (λ k. or_has_right x y (row % 64) ((q row e).1 k)),
)

pub word_not : (P : ℕ → Type 0) (w x : ℕ) → x < 2 ^ 64 → WordOf P w x → WordOf (λ row. P row → ⊥) w (2 ^ 64 - 1 - x)
word_not P w x l p row e =
    let turned = other_bit 64 x (row % 64) l (mod_below row 64 (omega arith)) in (
      λ h k. let at = (p row e).1 k in omega arith,
      λ out. ⊎_elim (λ h. absurd (out ((p row e).0 h))) (λ z. omega arith) (has_or_not x (row % 64)),
    )

pub word_like : (P Q : ℕ → Type 0) (w x : ℕ) → ((row : ℕ) → Exactly (P row) (Q row)) → WordOf P w x → WordOf Q w x
word_like P Q w x same p row e = (λ h. (same row).0 ((p row e).0 h), λ q. (p row e).1 ((same row).1 q))

-- rows that are added if a fact holds that is the same for all of them: where it holds, and where it does not
pub word_more : (P R : ℕ → Type 0) (Q : Type 0) (w x y : ℕ) → WordOf P w x → Q → WordOf R w y → WordOf (λ row. P row ⊎ (Q × R row)) w (bit_or x y)
word_more P R Q w x y p q r = word_or P (λ row. Q × R row) w x y p (word_like R (λ row. Q × R row) w y (λ row. (λ k. (q, k), λ k. k.1)) r)

pub word_same : (P R : ℕ → Type 0) (Q : Type 0) (w x : ℕ) → WordOf P w x → (Q → ⊥) → WordOf (λ row. P row ⊎ (Q × R row)) w x
word_same P R Q w x p out = word_like P (λ row. P row ⊎ (Q × R row)) w x (λ row. (inl, ⊎_elim (λ k. k) (λ k. absurd (out k.0)))) p

-- ---- the loop over the atoms

-- the row meets the clause by an atom below k
abbrev pub MeetsBelow : Clause → ℕ → ℕ → Type 0
MeetsBelow c k row = (a : ℕ) × (a < k) × MeetsBy c row a

-- the rows that meet it by the next atom are added: those that say yes, and those that say no
abbrev pub MeetsYes : Clause → ℕ → ℕ → Type 0
MeetsYes c k row = MeetsBelow c k row ⊎ (Has c.first k × Has row k)

abbrev pub MeetsEither : Clause → ℕ → ℕ → Type 0
MeetsEither c k row = MeetsYes c k row ⊎ (Has c.second k × (Has row k → ⊥))

pub below_more : (c : Clause) (k w x : ℕ) → WordOf (MeetsEither c k) w x → WordOf (MeetsBelow c (k + 1)) w x
below_more c k w x p =
    word_like (MeetsEither c k) (MeetsBelow c (k + 1)) w x
    (λ row. (
      ⊎_elim (⊎_elim (λ m. (m.0, omega (arith, m.1), m.2)) (λ y. (k, omega arith, inl y))) (λ n. (k, omega arith, inr n)),
      λ m. elim (dec_lt m.0 k) [
        | yes l ↦ inl (inl (m.0, l, m.2))
        | no l ↦ let e : m.0 ≡ k = omega (arith, m.1) in ⊎_elim (λ y. inl (inr y)) inr (subst (MeetsBy c row) e m.2)
      ],
    ))
    p

pub below_all : (c : Clause) (atoms w x : ℕ) → IsClause atoms c → WordOf (MeetsBelow c atoms) w x → WordOf (Meets c) w x
below_all c atoms w x is p =
    word_like (MeetsBelow c atoms) (Meets c) w x
    (λ row. (λ m. (m.0, m.2), λ m. (m.0, ⊎_elim (λ h. has_under atoms c.first m.0 is.0 h.0) (λ h. has_under atoms c.second m.0 is.1 h.0) m.1, m.1)))
    p

-- ---- tables

pub table_like : (P Q : ℕ → Type 0) (t : List ℕ) → ((row : ℕ) → Exactly (P row) (Q row)) → TableOf P t → TableOf Q t
table_like P Q t same p row l = (λ h. (same row).0 ((p row l).0 h), λ q. (p row l).1 ((same row).1 q))

-- from a table of rows in another to their table
pub table_then : (P Q R : ℕ → Type 0) (t u : List ℕ) → ((row : ℕ) → Exactly (P row × Q row) (R row)) → TableOf P t → TableOf (λ row. InTable t row × Q row) u → TableOf R u
table_then P Q R t u same p q row l =
    (λ h. let k = (q row l).0 h in (same row).0 ((p row l).0 k.0, k.1), λ r. let k = (same row).1 r in (q row l).1 ((p row l).1 k.0, k.1))

-- the words below w of u have the rows of t with P
abbrev pub WordsBelow : (ℕ → Type 0) → List ℕ → ℕ → List ℕ → Type 0
WordsBelow P t w u = (row : ℕ) → row / 64 < w → Exactly (InTable u row) (InTable t row × P row)

pub words_more : (P : ℕ → Type 0) (t u : List ℕ) (w y x : ℕ) → w < length u → y ≡ get_or t w 0 → WordsBelow P t w u → WordOf P w x → WordsBelow P t (w + 1) (set u w (bit_and y x))
words_more P t u w y x l is below here row m = elim (ℕ_discrete (row / 64) w) [
  | yes e ↦
      let b = row % 64 in
      let new : get_or (set u w (bit_and y x)) (row / 64) 0 ≡ bit_and y x = ap (λ i. get_or (set u w (bit_and y x)) i 0) e ∙ get_or-set_same u w (bit_and y x) 0 l in
      let old : get_or t (row / 64) 0 ≡ y = ap (λ i. get_or t i 0) e ∙ sym is in (
        λ h. let k = subst (λ z. Has z b) new h in (subst (λ z. Has z b) (sym old) (and_has_left y x b k), (here row e).0 (and_has_right y x b k)),
        λ k. subst (λ z. Has z b) (sym new) (and_has y x b (subst (λ z. Has z b) old k.0) ((here row e).1 k.1)),
      )
  | no other ↦
      let same = get_or-set_other u w (row / 64) (bit_and y x) 0 other in
      let before = below row (omega arith) in
      (λ h. before.0 (subst (λ z. Has z (row % 64)) same h), λ k. subst (λ z. Has z (row % 64)) (sym same) (before.1 k))
]

-- ---- one clause more

pub narrowed_more : (cs : List Clause) (x : Clause) (t u : List ℕ) → Narrowed cs t → TableOf (λ row. InTable t row × Meets x row) u → Narrowed (cs ++ x ∷ []) u
narrowed_more cs x t u p q =
    narrowed_from_table (cs ++ x ∷ []) u
    (table_then (MeetsAll cs) (Meets x) (MeetsAll (cs ++ x ∷ [])) t u
    (λ row. (λ k. all_push (λ c. Meets c row) cs x k.0 k.1, all_pushed (λ c. Meets c row) cs x))
    (table_from_narrowed cs t p) q)

-- ---- the loop over the lines of a set

-- the row meets the clauses, and the sense of every line of s below k
abbrev pub LeftBelow : List Clause → (ℕ → Option Clause) → ℕ → ℕ → ℕ → Type 0
LeftBelow cs sense s k row = MeetsAll cs row × ((n : ℕ) → n < k → Has s n → MeetsSense (sense n) row)

module _ (cs : List Clause) (sense : ℕ → Option Clause) (s k : ℕ) (t : List ℕ) where
  pub left_none : TableOf (MeetsAll cs) t → TableOf (LeftBelow cs sense s 0) t
  left_none p = table_like (MeetsAll cs) (LeftBelow cs sense s 0) t (λ row. (λ m. (m, λ n l. absurd (omega arith)), λ m. m.0)) p

  -- the next line is in s
  pub left_more : (u : List ℕ) → TableOf (LeftBelow cs sense s k) t → Has s k → TableOf (λ row. InTable t row × MeetsSense (sense k) row) u → TableOf (LeftBelow cs sense s (k + 1)) u
  left_more u before h after =
      table_then (LeftBelow cs sense s k) (MeetsSense (sense k)) (LeftBelow cs sense s (k + 1)) t u
      (λ row. (
        λ both. (both.0.0, λ n l i. elim (dec_lt n k) [ yes m ↦ both.0.1 n m i | no m ↦ let e : n ≡ k = omega arith in subst (λ x. MeetsSense (sense x) row) (sym e) both.1 ]),
        λ all. ((all.0, λ n l. all.1 n (omega arith)), all.1 k (omega arith) h),
      ))
      before after

  -- the next line is not
  pub left_same : TableOf (LeftBelow cs sense s k) t → (Has s k → ⊥) → TableOf (LeftBelow cs sense s (k + 1)) t
  left_same before out =
      table_like (LeftBelow cs sense s k) (LeftBelow cs sense s (k + 1)) t
      (λ row. (
        λ all. (all.0, λ n l i. elim (dec_lt n k) [ yes m ↦ all.1 n m i | no m ↦ let e : n ≡ k = omega arith in absurd (out (subst (Has s) e i)) ]),
        λ all. (all.0, λ n l. all.1 n (omega arith)),
      ))
      before

-- ---- whether every row of a table has P, asked word by word

-- those rows of the word that are in x have P, if the rows of the word with P have all of x
pub all_from_within : (P : ℕ → Type 0) (w x y : ℕ) → WordOf P w y → Within x y → (row : ℕ) → row / 64 ≡ w → Has x (row % 64) → P row
all_from_within P w x y here within row e h = (here row e).0 (within (row % 64) h)

pub within_from_all : (P : ℕ → Type 0) (w x y : ℕ) → WordOf P w y → x < 2 ^ 64 → ((row : ℕ) → row / 64 ≡ w → Has x (row % 64) → P row) → Within x y
within_from_all P w x y here fits all n h =
    let small = has_below x n fits h in
    let up : (64 * w + n) / 64 ≡ w = omega arith in
    let low : n ≡ (64 * w + n) % 64 = omega arith in
    subst (Has y) (sym low) ((here (64 * w + n) up).1 (all (64 * w + n) up (subst (Has x) low h)))

-- what was answered at a word of the table, which comes with its number
abbrev pub WordAnswer : (ℕ → Type 0) → Bool → ℕ × ℕ → Type 0
WordAnswer P r p = Decides r ((row : ℕ) → row / 64 ≡ p.0 → Has p.1 (row % 64) → P row)

module _ (P : ℕ → Type 0) (t : List ℕ) (long : length t ≡ 16) where
  -- the answer at word w
  answer_at : (w : ℕ) (r : Bool) → w < 16 → HoldsAt (WordAnswer P r) (enumerate_from 0 t) w → WordAnswer P r (w, get_or t w 0)
  answer_at w r l holds =
      let at : 0 + w ≡ w = omega arith in
      subst (WordAnswer P r) (get_or-enumerate_from 0 t w (0, 0) (omega (arith, long)) ∙ ap (λ k. (k, get_or t w 0)) at) (holds (0, 0))

  pub all_from_words :
      (r : Bool) → MatchBool r (AllWithin (WordAnswer P true) (enumerate_from 0 t) 0 (length (enumerate_from 0 t))) ((w : ℕ) × (w < length (enumerate_from 0 t)) × HoldsAt (WordAnswer P false) (enumerate_from 0 t) w)
      → Decides r ((row : ℕ) → RowOf t row → P row)
  all_from_words true all = (
    λ _ row m.
        let l : row / 64 < 16 = omega (arith, m.0) in
        (answer_at (row / 64) true l (λ d. all (row / 64) d (omega arith) (omega (arith, length-enumerate_from 0 t, long)))).0 refl row refl m.1,
    λ _. refl,
  )
  all_from_words false some = (
    λ e. grind arith,
    λ all.
        let l : some.0 < 16 = omega (arith, some.1, length-enumerate_from 0 t, long) in
        absurd (not_from_Decides false (answer_at some.0 false l some.2) refl
        (λ row e h. all row (omega (arith, e, l), subst (λ w. Has (get_or t w 0) (row % 64)) (sym e) h))),
  )

-- ---- the lines for which a test says yes

-- the test is whether line n has P
pub exactly_where : (P : ℕ → Type 0) (s : ℕ) → ((n : ℕ) → P n → n < 64) → ((n : ℕ) → Has s n → Decides true (P n)) → ((n : ℕ) → n < 64 → (Has s n → ⊥) → Decides false (P n)) → (n : ℕ) → Exactly (Has s n) (P n)
exactly_where P s below has lacks n =
    (λ h. (has n h).0 refl, λ p. ⊎_elim (λ h. h) (λ z. absurd (not_from_Decides false (lacks n (below n p) (λ h. omega (arith, z, h))) refl p)) (has_or_not s n))

-- the lines of a set, and those with P
pub exactly_or : (P : ℕ → Type 0) (s t : ℕ) → ((n : ℕ) → Exactly (Has t n) (P n)) → (n : ℕ) → Exactly (Has (bit_or s t) n) (Has s n ⊎ P n)
exactly_or P s t is n =
    (λ h. ⊎_elim inl (λ k. inr ((is n).0 k)) (or_has s t n h), ⊎_elim (or_has_left s t n) (λ p. or_has_right s t n ((is n).1 p)))

-- what was answered whether line n has a sense that every row of the table meets
abbrev pub LineAnswer : (ℕ → Option Clause) → List ℕ → ℕ → Bool → Type 0
LineAnswer sense t n r = (o : Option Clause) × (o ≡ sense n) × Decides r (AllMeet (RowOf t) o)

-- at the table of the rows left, that is whether the line is entailed
pub entailed_at : (cs : List Clause) (sense : ℕ → Option Clause) (s : ℕ) (t : List ℕ) → TableOf (Left atom_count cs sense s) t → (n : ℕ) (r : Bool) → LineAnswer sense t n r → Decides r (Entailed atom_count cs sense s n)
entailed_at cs sense s t left n r a =
    subst (λ p. Decides r (AllMeet (Left atom_count cs sense s) p)) a.1
    (Decides-like r
    (all_meet_fewer (RowOf t) (Left atom_count cs sense s) a.0 (λ row m. (m.is_row, (left row m.is_row).1 m)))
    (all_meet_fewer (Left atom_count cs sense s) (RowOf t) a.0 (λ row m. (left row m.0).0 m.1))
    a.2)
