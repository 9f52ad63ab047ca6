-- What a hold that is out is saved as.
use Rattle.std.proofs.Common.{◌≡◌, ℕ, ◌≤◌, List, length, is_some, Some, None, Option, sym, refl, ap, ◌∙◌, subst, inl, inr, arith}
use native.Mathlib.Decide.{dec_lt}
use Rattle.std.specs.Option.{option_map, ok_or}
use Rattle.sets.specs.Grounds.{NoGround, FirstGround, Answered}
use Rattle.sets.specs.declared.refusal.Refusal.TheVariants.{BufferTooShort}
use Rattle.sets.proofs.Rows.{some_same, no_some}
use Rattle.record.specs.Record.{edition, encode}
use Rattle.record.specs.Writing.{Writes}
use Rattle.record.specs.declared.entries.Entry.{Entry}
use Rattle.sets.specs.Sets.{Has}
use Rattle.book.specs.Rows.{Full}
use Rattle.book.specs.Contents.{Held}
use Rattle.book.specs.Saved.{EntriesOf}
use Rattle.book.proofs.Saving.{entries_one}
use Rattle.laws.specs.World.{World, Token, OutHere, HoldEntries, Recorded, save_grounds}

-- a hold is seen by its lines
held_lines : (o : Option Held) (lines : ℕ) → Some lines ≡ option_map (λ h. h.lines) o → o ≡ Some (record { lines = lines })
held_lines None lines e = absurd (no_some (sym e))
held_lines (Some h) lines e = ap (λ n. Some (record { lines = n })) (sym (some_same e))

module _ (w : World) (hold : Token) (own : hold.planner ≡ w.number) (lines : ℕ) (found : Some lines ≡ option_map (λ h. h.lines) (w.book.holds hold.number)) (whole : (n : ℕ) → Has lines n → Full w.book.lines n) where
  is_held : w.book.holds hold.number ≡ Some (record { lines = lines })
  is_held = held_lines (w.book.holds hold.number) lines found

  pub out_here : OutHere w hold
  out_here = record { own = own; out = ap is_some is_held }

  module _ (es : List Entry) (of : EntriesOf w.book lines es) where
    hold_entries : HoldEntries w.book hold.number es
    hold_entries = record { held = record { lines = lines }; out = is_held; of = of; whole = whole }

    -- its entries are these and no others
    entries_are : (fs : List Entry) → HoldEntries w.book hold.number fs → es ≡ fs
    entries_are fs h =
        let same : lines ≡ h.held.lines = ap (λ x. x.lines) (some_same (sym is_held ∙ h.out)) in
        entries_one w.book lines es fs of (subst (λ s. EntriesOf w.book s fs) (sym same) h.of)

    save_done : (before after : List ℕ) (count : ℕ) → Writes es before after (Some count) → NoGround (save_grounds w hold (length before)) × Recorded w.book hold.number before after count
    save_done before after count written = (
      ((λ out. out out_here), ((λ long. let same = ap (λ x. length (encode edition x)) (entries_are long.0 long.1) in omega (arith, long.2, written.1, written.2)), tt)),
      record { entries = es; of_hold = hold_entries; length_is = written.1; bytes = written.3 },
    )

    save_short : (room : ℕ) → (length (encode edition es) ≤ room → ⊥) → FirstGround (save_grounds w hold room) BufferTooShort
    save_short room short = inr ((λ out. out out_here), inl ((es, hold_entries, elim (dec_lt room (length (encode edition es))) [ yes lt ↦ lt | no ge ↦ absurd (short (omega arith)) ]), refl))

    -- how the writing of its entries is answered
    pub save_answers : (before after : List ℕ) (written : Option ℕ) → Writes es before after written → (length (encode edition es) ≤ length before → written ≡ Some (length (encode edition es)))
        → Answered (save_grounds w hold (length before)) (Recorded w.book hold.number before after) (after ≡ before) (ok_or written BufferTooShort)
    save_answers before after None written good = (save_short (length before) (λ room. no_some (good room)), written.1)
    save_answers before after (Some count) written good = save_done before after count written
