-- Reading: one entry more, a faulty one, and the end.
use Rattle.std.proofs.Common.{◌≡◌, ℕ, ◌+◌, ◌-◌, ◌<◌, ◌≤◌, Bool, true, false, List, [], ◌∷◌, ◌++◌, length, drop, Ok, Err, Result, sym, ap, ◌∙◌, arith, length-append, length-drop}
use Rattle.std.specs.List.{flat_map}
use Rattle.std.proofs.lemmas.List.{append_assoc, append-nil, flat_map_more, nil_from_length}
use Rattle.record.specs.declared.entries.Entry.{Entry}
use Rattle.record.specs.declared.entries.Entries.{Entries}
use Rattle.record.specs.declared.fault.Fault.{Fault}
use Rattle.record.specs.Record.{edition, front_bytes, entry_bytes, layout, encode, Good, Fit, Pushes, listed}
use Rattle.record.specs.Faults.{FirstFaulty, FaultIn, Opened, Reads, Same}
use Rattle.record.proofs.Rises.{after, good_last}
use Rattle.record.proofs.OneFault.{one_fault}
use Rattle.record.proofs.Layouts.{length_layouts, made_of, encode_same, faultless}

-- where there is room, the entry is added
pub pushed : (before after : List Entry) (e : Entry) (r : Bool) → Pushes before e after r → length before < 64 → after ≡ before ++ (e ∷ [])
pushed before after e true h room = h.1
pushed before after e false h room = let full = h.0 in absurd (omega arith)

-- what was encoded is read back
back_from : (next : ℕ) (bytes : List ℕ) (r : Result Entries Fault) → Reads next bytes r → (es : List Entry) → Good next es → bytes ≡ encode edition es → Same r es
back_from next bytes (Ok x) h es g e = encode_same edition _ es (sym h.1 ∙ e)
back_from next bytes (Err f) h es g e = faultless next bytes es f g e h

-- a fault that the bytes have is the answer
exact_from : (next : ℕ) (bytes : List ℕ) (r : Result Entries Fault) → Reads next bytes r → (f : Fault) → FaultIn next bytes f → r ≡ Err f
exact_from next bytes (Ok x) h f k = absurd (faultless next bytes (listed x) f h.0 h.1 k)
exact_from next bytes (Err g) h f k = ap Err (one_fault next bytes g f h k)

-- what reading promises, from its first clause
pub read_from : (next : ℕ) (bytes : List ℕ) (r : Result Entries Fault) → Reads next bytes r → record { one : Reads next bytes r; back : (es : List Entry) → Good next es → bytes ≡ encode edition es → Same r es; exact : (f : Fault) → FaultIn next bytes f → r ≡ Err f }
read_from next bytes r one = record { one = one; back = back_from next bytes r one; exact = exact_from next bytes r one }

-- the bytes so far, with the next entry
pub entry_more : (bytes rest : List ℕ) (es : List Entry) (e : Entry) → bytes ≡ flat_map layout es ++ rest → rest ≡ layout e ++ drop entry_bytes rest → bytes ≡ flat_map layout (es ++ (e ∷ [])) ++ drop entry_bytes rest
entry_more bytes rest es e d first =
    d
    ∙ ap (λ r. flat_map layout es ++ r) first
    ∙ sym (append_assoc (flat_map layout es) (layout e) (drop entry_bytes rest))
    ∙ ap (λ front. front ++ drop entry_bytes rest) (flat_map_more layout [] es e)

-- the front, the entries so far and the rest are all the bytes
pub length_left : (bytes rest : List ℕ) (es : List Entry) → drop front_bytes bytes ≡ flat_map layout es ++ rest → front_bytes ≤ length bytes → length bytes ≡ front_bytes + length (flat_map layout es) + length rest
length_left bytes rest es d h = omega (arith, ap length d, length-append (flat_map layout es) rest, length-drop front_bytes bytes)

-- an entry that does not fit behind the good ones is the first faulty one
pub faulty_here : (next : ℕ) (bytes rest : List ℕ) (es : List Entry) (e : Entry) (place : ℕ) → place ≡ length bytes - length rest → drop front_bytes bytes ≡ flat_map layout es ++ rest → front_bytes ≤ length bytes → rest ≡ layout e ++ drop entry_bytes rest → Good next es → (Fit next (after 0 es) e → ⊥) → FirstFaulty next bytes place
faulty_here next bytes rest es e place here d h first g unfit =
    record {
      before = es;
      entry = e;
      behind = drop entry_bytes rest;
      stands = d ∙ ap (λ r. flat_map layout es ++ r) first;
      at = omega (arith, length_left bytes rest es d h);
      good = g;
      faulty = λ more. unfit (good_last next es e more);
    }

-- no entry is left, so the bytes are the record
pub all_read : (bytes rest first : List ℕ) (es : List Entry) → Opened bytes first → drop front_bytes bytes ≡ flat_map layout es ++ rest → length rest < entry_bytes → bytes ≡ encode edition es
all_read bytes rest first es o d short =
    let left = length_left bytes rest es d o.right_length.0 in
    let said = o.right_length.1 in
    let counted = o.right_count in
    let none = nil_from_length rest (omega (arith, length_layouts es)) in
    made_of bytes es o.right_length o.right_version o.right_count o.low (d ∙ ap (λ r. flat_map layout es ++ r) none ∙ append-nil (flat_map layout es))
