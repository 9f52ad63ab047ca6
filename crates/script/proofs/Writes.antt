-- How prints follow one another.
use Rattle.std.proofs.Common.{◌≡◌, ℕ, ◌+◌, ◌-◌, ◌≤◌, min, List, [], ◌++◌, length, take, drop, sym, refl, ap, ◌∙◌, subst, add-zero, arith}
use borrow.Rule.Slice.PartMut.{put_mid}
use lib.Seq.{paste}
use Rattle.std.proofs.lemmas.List.{take-take, drop-drop, length-append, take-append-drop, take_all, length-take-le}
use Rattle.std.proofs.lemmas.List.Edits.{paste_all, paste-paste, length-paste, drop-paste}
use Rattle.std.proofs.lemmas.Slice.{put_mid-paste, take-put_mid_below}
use Rattle.script.specs.Writing.{Kept, Prints, Says, Whole, Wrote}
use Rattle.script.specs.declared.printer.Printer.{Printer}

pub kept_none : (b : List ℕ) (at : ℕ) → Kept b at b at
kept_none b at = record { rises = omega arith; inside = λ h. h; size = refl; front = refl; rest = refl }

pub kept_then : {b m a : List ℕ} {at r s : ℕ} → Kept b at m r → Kept m r a s → Kept b at a s
kept_then {b} {m} {a} {at} {r} {s} p q = record {
  rises = omega arith;
  inside = λ h. let k = p.inside h in let e = p.size in let i : r ≤ length m = omega arith in let j = q.inside i in omega arith;
  size = q.size ∙ p.size;
  front = sym (take-take at r a p.rises) ∙ (ap (take at) q.front ∙ (take-take at r m p.rises ∙ p.front));
  rest = q.rest ∙ onward;
}
  where
    onward : drop s m ≡ drop s b
    onward =
        let le = q.rises in
        let e : r + (s - r) ≡ s = omega arith in
        ap (λ n. drop n m) (sym e) ∙ (sym (drop-drop (s - r) r m) ∙ (ap (drop (s - r)) p.rest ∙ (drop-drop (s - r) r b ∙ ap (λ n. drop n b) e)))

pub wrote_none : (b : List ℕ) (at : ℕ) → Wrote b at [] b at
wrote_none b at = record {
  kept = kept_none b at;
  whole = λ h. record { place = sym (add-zero at); bytes = sym (ap (λ n. take at b ++ drop n b) (add-zero at) ∙ take-append-drop at b) };
}

-- as much of a text as the buffer has room for
pub wrote_cut : (b text piece : List ℕ) (at k n : ℕ) → at ≤ length b → piece ≡ take n text → k ≡ n → n ≡ min (length text) (length b - at) → Wrote b at text (put_mid at k b piece) (at + n)
wrote_cut b text piece at k n inside cut same fits = record {
  kept = record {
    rises = omega arith;
    inside = λ _. omega arith;
    size = ap length e ∙ length-paste b at (take n text) n (omega arith) (omega (arith, l));
    front = take-put_mid_below at k b piece at (omega arith) inside;
    rest = ap (drop (at + n)) e ∙ drop-paste b at (take n text) n inside (omega (arith, l));
  };
  whole = whole_if;
}
  where
    l : length (take n text) ≡ n
    l = length-take-le n text (omega arith)

    e : put_mid at k b piece ≡ paste b at (take n text) n
    e = put_mid-paste at k b piece (take n text) n cut (omega arith) (omega (arith, l))

    whole_if : at + length text ≤ length b → Whole b at text (put_mid at k b piece) (at + n)
    whole_if h =
        let all : n ≡ length text = omega arith in record {
          place = omega arith;
          bytes =
              e
              ∙ (paste_all b at (take n text) n (omega (arith, l))
              ∙ (ap (λ t. take at b ++ (t ++ drop (at + n) b)) (take_all n text (omega arith)) ∙ ap (λ m. take at b ++ (text ++ drop (at + m) b)) all));
        }

pub wrote_then : {b m a t u : List ℕ} {at r s : ℕ} → Wrote b at t m r → Wrote m r u a s → Wrote b at (t ++ u) a s
wrote_then {b} {m} {a} {t} {u} {at} {r} {s} p q = record { kept = kept_then p.kept q.kept; whole = whole_then }
  where
    whole_then : at + length (t ++ u) ≤ length b → Whole b at (t ++ u) a s
    whole_then h =
        let l = length-append t u in
        let w = p.whole (omega (arith, l)) in
        let v = q.whole (omega (arith, l, w.place, p.kept.size)) in
        let first : m ≡ paste b at t (length t) = w.bytes ∙ sym (paste_all b at t (length t) refl) in
        let second : a ≡ paste m r u (length u) = v.bytes ∙ sym (paste_all m r u (length u) refl) in
        let both : paste (paste b at t (length t)) (at + length t) u (length u) ≡ paste b at (t ++ u) (length t + length u) =
        paste-paste b at t u (length t) (length u) refl refl (omega arith) in
        let join : a ≡ paste b at (t ++ u) (length (t ++ u)) =
        second ∙ (ap (λ x. paste x r u (length u)) first ∙ (ap (λ n. paste (paste b at t (length t)) n u (length u)) w.place ∙ (both ∙ ap (λ n. paste b at (t ++ u) n) (sym l)))) in
        record { place = omega (arith, l, w.place, v.place); bytes = join ∙ paste_all b at (t ++ u) (length (t ++ u)) refl }

-- prints

pub prints_as : {was is : Printer} {t u : List ℕ} → t ≡ u → Prints was t is → Prints was u is
prints_as {was} {is} e p = let P : List ℕ → Type 0 = λ x. Prints was x is in subst P e p

pub prints_none : (p : Printer) → Prints p [] p
prints_none p = record { same = refl; wrote = wrote_none p.buffer.now p.at }

pub prints_then : {a b c : Printer} {t u : List ℕ} → Prints a t b → Prints b u c → Prints a (t ++ u) c
prints_then p q = record { same = q.same ∙ p.same; wrote = wrote_then p.wrote q.wrote }

pub says_as : {was is : Printer} {t u : List ℕ} → t ≡ u → Says was t is → Says was u is
says_as {was} {is} e p = let P : List ℕ → Type 0 = λ x. Says was x is in subst P e p
