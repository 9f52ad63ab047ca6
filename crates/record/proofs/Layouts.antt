-- One layout: entries from their bytes, and bytes from their entries.
use Rattle.std.proofs.Common.{◌≡◌, ℕ, ◌+◌, ◌*◌, ◌/◌, ◌%◌, ◌<◌, ◌≤◌, List, [], ◌∷◌, ◌++◌, length, get_or, drop, refl, ap, ◌∙◌, subst, arith}
use Rattle.std.specs.List.{flat_map}
use Rattle.record.specs.declared.entries.Entry.{Entry}
use Rattle.record.specs.declared.fault.Fault.{Fault}
use Rattle.record.specs.declared.fault.Fault.TheVariants.{Length, Version, Count, Entry as AtEntry}
use Rattle.record.specs.Record.{edition, entry_bytes, front_bytes, layout, encode, Good}
use Rattle.record.specs.Faults.{RightLength, RightVersion, RightCount, FaultIn}
use Rattle.record.proofs.Rises.{good_front}

front_four : (bytes : List ℕ) → 4 ≤ length bytes → bytes ≡ get_or bytes 0 0 ∷ get_or bytes 1 0 ∷ get_or bytes 2 0 ∷ get_or bytes 3 0 ∷ drop 4 bytes
front_four [] h = absurd (omega arith)
front_four (a ∷ []) h = absurd (omega arith)
front_four (a ∷ b ∷ []) h = absurd (omega arith)
front_four (a ∷ b ∷ c ∷ []) h = absurd (omega arith)
front_four (a ∷ b ∷ c ∷ d ∷ rest) h = refl

front_three : (bytes : List ℕ) → 3 ≤ length bytes → bytes ≡ get_or bytes 0 0 ∷ get_or bytes 1 0 ∷ get_or bytes 2 0 ∷ drop 3 bytes
front_three [] h = absurd (omega arith)
front_three (a ∷ []) h = absurd (omega arith)
front_three (a ∷ b ∷ []) h = absurd (omega arith)
front_three (a ∷ b ∷ c ∷ rest) h = refl

pub length_layouts : (es : List Entry) → length (flat_map layout es) ≡ entry_bytes * length es
length_layouts [] = refl
length_layouts (e ∷ es) = omega (arith, length_layouts es)

-- the bytes begin with those of the entry that the first three make
pub entry_first : (bytes : List ℕ) (e : Entry) → 3 ≤ length bytes → e.line ≡ get_or bytes 0 0 → e.number ≡ 256 * get_or bytes 1 0 + get_or bytes 2 0 → get_or bytes 2 0 < 256 → bytes ≡ layout e ++ drop 3 bytes
entry_first bytes e h line number low =
    let all = front_three bytes h in
    let up : e.number / 256 ≡ get_or bytes 1 0 = omega arith in
    let down : e.number % 256 ≡ get_or bytes 2 0 = omega arith in
    cc

pub same_entry : (x y : Entry) → x.line ≡ y.line → x.number / 256 ≡ y.number / 256 → x.number % 256 ≡ y.number % 256 → x ≡ y
same_entry x y l up down =
    let n : x.number ≡ y.number = omega arith in
    let entry : ℕ → ℕ → Entry = λ line number. record { line = line; number = number } in
    ap (λ line. entry line x.number) l ∙ ap (entry y.line) n

-- bytes that begin with those of an entry, and are those of entries
layouts_split : (bs es : List Entry) (e : Entry) (behind : List ℕ) → flat_map layout es ≡ flat_map layout bs ++ (layout e ++ behind) → (fs : List Entry) × (es ≡ bs ++ (e ∷ fs))
layouts_split [] [] e behind h = absurd (cc)
layouts_split [] (x ∷ es) e behind h = let x-is = same_entry x e (cc) (cc) (cc) in (es, cc)
layouts_split (b ∷ bs) [] e behind h = absurd (cc)
layouts_split (b ∷ bs) (x ∷ es) e behind h =
    let x-is = same_entry x b (cc) (cc) (cc) in
    let rest = layouts_split bs es e behind (cc) in
    let tail = rest.1 in
    (rest.0, cc)

layouts_same : (es fs : List Entry) → flat_map layout es ≡ flat_map layout fs → es ≡ fs
layouts_same [] [] h = refl
layouts_same [] (f ∷ fs) h = absurd (cc)
layouts_same (e ∷ es) [] h = absurd (cc)
layouts_same (e ∷ es) (f ∷ fs) h =
    let head = same_entry e f (cc) (cc) (cc) in
    let tail = layouts_same es fs (cc) in
    cc

-- a record is one of no other entries
pub encode_same : (version : ℕ) (es fs : List Entry) → encode version es ≡ encode version fs → es ≡ fs
encode_same version es fs h = layouts_same es fs (cc)

right_length : (version : ℕ) (es : List Entry) → RightLength (encode version es)
right_length version es = (omega arith, omega arith)

right_count : (version : ℕ) (es : List Entry) → RightCount (encode version es)
right_count version es = omega (arith, length_layouts es)

-- the record of good entries has no fault
no_fault : (next : ℕ) (es : List Entry) (f : Fault) → Good next es → FaultIn next (encode edition es) f → ⊥
no_fault next es Length g h = h (right_length edition es)
no_fault next es Version g h = h.1 refl
no_fault next es Count g h = h.2 (right_count edition es)
no_fault next es (AtEntry place) g h =
    let fault = h.3 in
    let split = layouts_split fault.before es fault.entry fault.behind fault.stands in
    fault.faulty (good_front next fault.before fault.entry split.0 (subst (Good next) split.1 g))

pub faultless : (next : ℕ) (bytes : List ℕ) (es : List Entry) (f : Fault) → Good next es → bytes ≡ encode edition es → FaultIn next bytes f → ⊥
faultless next bytes es f g e h = no_fault next es f g (subst (λ b. FaultIn next b f) e h)

-- right bytes in front of the bytes of entries are a record
pub made_of : (bytes : List ℕ) (es : List Entry) → RightLength bytes → RightVersion bytes → RightCount bytes → get_or bytes 1 0 < 256 → drop front_bytes bytes ≡ flat_map layout es → bytes ≡ encode edition es
made_of bytes es l v c low d =
    let n = ap length d in
    let all = front_four bytes l.0 in
    let total = ap length all in
    let counted : get_or bytes 3 0 ≡ length es = omega (arith, length_layouts es) in
    let high_is : get_or bytes 0 0 ≡ (2 + length (flat_map layout es)) / 256 = omega (arith, length_layouts es) in
    let low-is : get_or bytes 1 0 ≡ (2 + length (flat_map layout es)) % 256 = omega (arith, length_layouts es) in
    cc
