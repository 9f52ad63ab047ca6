-- Writing: bytes placed in a buffer, and entries that fit their bytes.
use Rattle.std.proofs.Common.{◌≡◌, ℕ, ◌+◌, ◌*◌, ◌<◌, ◌≤◌, List, [], ◌∷◌, ◌++◌, length, get_or, take, drop, Some, None, Option, refl, sym, ap, ◌∙◌, arith, length-append}
use Rattle.std.specs.List.{flat_map, AllByRecursion}
use Rattle.std.proofs.lemmas.List.{append_assoc, flat_map_more, length-take-le, take_at, drop_at, drop-drop, take_more}
use Rattle.record.specs.declared.entries.Entry.{Entry}
use Rattle.record.specs.Record.{Examples, edition, front_bytes, entry_bytes, layout, encode, RisingFrom, GivenOut, Good}
use Rattle.record.specs.Writing.{numbers_end, InBytes, Storable, Writes}
use Rattle.record.proofs.Rises.{after_counts, after_most}
use Rattle.record.proofs.Layouts.{length_layouts}

-- one entry more, at the place n behind those that are placed
pub placed_more : (f b : List ℕ) (es : List Entry) (i n : ℕ) (d : Entry) → n ≡ front_bytes + entry_bytes * i → i < length es → front_bytes + entry_bytes * length es ≤ length f → b ≡ take front_bytes f ++ (flat_map layout (take i es) ++ drop (front_bytes + entry_bytes * i) f) → take n b ++ (layout (get_or es i d) ++ drop (n + entry_bytes) b) ≡ take front_bytes f ++ (flat_map layout (take (i + 1) es) ++ drop (front_bytes + entry_bytes * (i + 1)) f)
placed_more f b es i n d n-is lt room b-is =
    let e = get_or es i d in
    let J = flat_map layout (take i es) in
    let p = take front_bytes f ++ J in
    let D = drop (front_bytes + entry_bytes * (i + 1)) f in
    let taken = length-take-le i es (omega arith) in
    let four = length-take-le front_bytes f (omega arith) in
    let p-long : length p ≡ n = omega (arith, length-append (take front_bytes f) J, length_layouts (take i es)) in
    let b-parts : b ≡ p ++ drop n f = b-is ∙ sym (append_assoc (take front_bytes f) J (drop _ f)) ∙ ap (λ k. p ++ drop k f) (sym n-is) in
    let start : take n b ≡ p = ap (take n) b-parts ∙ take_at p (drop n f) n p-long in
    let left : drop n b ≡ drop n f = ap (drop n) b-parts ∙ drop_at p (drop n f) n p-long in
    let same : n + entry_bytes ≡ front_bytes + entry_bytes * (i + 1) = omega arith in
    let end : drop (n + entry_bytes) b ≡ D = sym (drop-drop entry_bytes n b) ∙ ap (drop entry_bytes) left ∙ drop-drop entry_bytes n f ∙ ap (λ k. drop k f) same in
    let items : J ++ layout e ≡ flat_map layout (take (i + 1) es) =
    flat_map_more layout [] (take i es) e ∙ ap (flat_map layout) (sym (take_more es i d lt)) in
    ap (λ x. x ++ (layout e ++ drop (n + entry_bytes) b)) start
    ∙ ap (λ x. p ++ (layout e ++ x)) end
    ∙ append_assoc (take front_bytes f) J (layout e ++ D)
    ∙ ap (λ x. take front_bytes f ++ x) (sym (append_assoc J (layout e) D))
    ∙ ap (λ x. take front_bytes f ++ (x ++ D)) items

-- an entry of a rising list of given numbers fits its bytes
in_bytes : (next least : ℕ) (es : List Entry) → next ≤ numbers_end → RisingFrom least es → AllByRecursion (GivenOut next) es → AllByRecursion InBytes es
in_bytes next least [] few r g = tt
in_bytes next least (e ∷ es) few r g =
    let below = r.1 in
    let given = g.0.1 in
    ((omega arith, omega arith), in_bytes next (e.line + 1) es few r.2 g.1)

-- good entries fit their bytes
storable_good : (next : ℕ) (es : List Entry) → next ≤ numbers_end → Good next es → Storable es
storable_good next es few g =
    let most = after_most 0 es (omega arith) g.rising in
    (omega (arith, after_counts 0 es g.rising), in_bytes next 0 es few g.rising g.given)

-- so they are written wherever there is room
good_written : (es : List Entry) (b a : List ℕ) (r : Option ℕ) → Writes es b a r → (next : ℕ) → next ≤ numbers_end → Good next es → length (encode edition es) ≤ length b → r ≡ Some (length (encode edition es))
good_written es b a (Some n) h next few g room = ap Some h.1
good_written es b a None h next few g room = absurd (h.0 (storable_good next es few g) room)

-- what writing promises, from its second clause
pub written_from : (es : List Entry) (b a : List ℕ) (r : Option ℕ) → Writes es b a r → record { examples : Examples; writes : Writes es b a r; good : (next : ℕ) → next ≤ numbers_end → Good next es → length (encode edition es) ≤ length b → r ≡ Some (length (encode edition es)) }
written_from es b a r w = record { examples = (refl, refl); writes = w; good = good_written es b a r w }
