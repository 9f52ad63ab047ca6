-- What is saved of a hold, looked at later, is read right.
use Rattle.std.proofs.Common.{◌≡◌, ℕ, suc, ◌<◌, ◌≤◌, List, [], ◌∷◌, take, drop, Some, None, Ok, Err, Option, Result, sym, refl, ap, ◌∙◌, subst, inl, inr, ⊎_elim, arith}
use Rattle.std.proofs.lemmas.List.{take_at}
use Rattle.std.specs.List.{AllByRecursion}
use Rattle.std.specs.Option.{option_map}
use Rattle.sets.specs.Sets.{Has}
use Rattle.sets.proofs.Rows.{some_same, no_some}
use Rattle.facts.specs.Meaning.{Meaning, Lawful}
use Rattle.record.specs.Record.{Good, GivenOut, edition, encode}
use Rattle.record.specs.declared.entries.Entry.{Entry}
use Rattle.record.specs.declared.fault.Fault.{Fault}
use Rattle.record.proofs.Layouts.{encode_same, faultless}
use Rattle.book.specs.Rows.{at, Full}
use Rattle.book.specs.Contents.{Contents, Statement}
use Rattle.book.specs.Calls.{number_at}
use Rattle.book.specs.Saved.{EntriesOf, Lists}
use Rattle.book.proofs.Tables.{not_full}
use Rattle.laws.specs.World.{World, Token, Event, fresh, saved, looked, Look, Recorded}
use Rattle.laws.specs.Runs.{Run, Call, Out}
use Rattle.laws.specs.Law.{ReadRight, Records}
use Rattle.laws.specs.declared.looked.Looked.{Looked}
use Rattle.laws.proofs.Logs.{call_below}
use Rattle.laws.proofs.Soundness.{Sound, HoldSound, OnFull}
use Rattle.laws.proofs.Telling.{own}
use Rattle.laws.proofs.Tracking.{Tracked, world_at, step_at, tracked_call}
use Rattle.laws.proofs.Fates.{Fate, book_at, carried}

-- a written line has a number, and it was given
number_from_full : (c : Contents) (n : ℕ) → Full c.lines n → (k : ℕ) × (number_at c n ≡ Some k)
number_from_full c n full = by (at c.lines n) refl
  where
    by : (o : Option Statement) → at c.lines n ≡ o → (k : ℕ) × (number_at c n ≡ Some k)
    by None e = absurd (not_full c.lines n e full)
    by (Some s) e = (s.number, ap (option_map (λ x. x.number)) e)

number_given : (c : Contents) → Sound c → (n k : ℕ) → number_at c n ≡ Some k → (1 ≤ k) × (k < c.next)
number_given c sound n k e = by (at c.lines n) refl
  where
    by : (o : Option Statement) → at c.lines n ≡ o → (1 ≤ k) × (k < c.next)
    by None f = absurd (no_some (sym (ap (option_map (λ x. x.number)) f) ∙ e))
    by (Some s) f =
        let same : s.number ≡ k = some_same (sym (ap (option_map (λ x. x.number)) f) ∙ e) in
        let g = sound.given n s f in
        (omega (arith, g.0), omega (arith, g.1))

-- what holds of each line and number listed holds of all entries
all_from_lists : (next : ℕ) (es : List Entry) → ((line number : ℕ) → Lists es line number → (1 ≤ number) × (number < next)) → AllByRecursion (GivenOut next) es
all_from_lists next [] each = tt
all_from_lists next (e ∷ es) each = (each e.line e.number (inl (refl, refl)), all_from_lists next es (λ line number l. each line number (inr l)))

-- Of the entries of a set of written lines, as the book a has them: a look at their record, with the book b, reads right.
module _ (log : List Event) (j i set : ℕ) (a b : Contents) (sound : Sound a) (full : OnFull a.lines set) (es : List Entry) (of : EntriesOf a set es)
    (fate : (n k : ℕ) → number_at a n ≡ Some k → Fate log j n k i b × (k < b.next)) where
  entries_good : Good b.next es
  entries_good = record {
    rising = of.rising;
    given = all_from_lists b.next es (λ line number l.
        let e = (of.each line number l).1 in
        ((number_given a sound line number e).0, (fate line number e).1));
  }

  -- a line of the set has an entry, and a fate
  entry_of : (n : ℕ) → Has set n → (k : ℕ) × Lists es n k × Fate log j n k i b
  entry_of n h = let k = number_from_full a n (full n h) in (k.0, of.every n k.0 h k.1, (fate n k.0 k.1).0)

  read_right : (bytes : List ℕ) → bytes ≡ encode edition es → (answer : Result Looked Fault) → Look b bytes answer → ReadRight log j i set answer
  read_right bytes is (Err fault) look = faultless b.next bytes es fault entries_good is look
  read_right bytes is (Ok found) look = (
    λ n h. let c = look.parted.still n h in let f = listed n c.0 c.1 in (f.0, ⊎_elim (λ has. has.1) (λ lost. absurd (lost.0 c.2)) f.1),
    λ n h none. let e = entry_of n h in look.parted.still_in n e.0 (back n e.0 e.1) (⊎_elim (λ has. has.0) (λ lost. absurd (none lost.1)) e.2),
    λ n h. let c = look.parted.past n h in let f = listed n c.0 c.1 in (f.0, ⊎_elim (λ has. absurd (c.2 has.0)) (λ lost. lost.1) f.1),
    λ n h struck. let e = entry_of n h in look.parted.past_in n e.0 (back n e.0 e.1) (⊎_elim (λ has. absurd (has.1 struck)) (λ lost. lost.0) e.2),
  )
    where
      same : look.entries ≡ es
      same = encode_same edition look.entries es (sym look.bytes_are ∙ is)

      listed : (n k : ℕ) → Lists look.entries n k → Has set n × Fate log j n k i b
      listed n k l = let e = of.each n k (subst (λ x. Lists x n k) same l) in (e.0, (fate n k e.1).0)

      back : (n k : ℕ) → Lists es n k → Lists look.entries n k
      back n k l = subst (λ x. Lists x n k) (sym same) l

module _ (m : Meaning) (lawful : Lawful m) (number : ℕ) (log : List Event) (after : World) (run : Run m (fresh number) log after) where
  tracked_at : (i : ℕ) (e : Event) → Call log i e → Tracked number log i (world_at m lawful number log after run i)
  tracked_at i e here = tracked_call m lawful number log after run i e here

  -- what a save writes down
  recorded : (j : ℕ) (hold : Token) (before bytes : List ℕ) (count : ℕ) → Call log j (saved hold before bytes (Ok count)) → Recorded (book_at m lawful number log after run j) hold.number before bytes count
  recorded j hold before bytes count here = (step_at m lawful number log after run j _ here).1.1

  saved_out : (j : ℕ) (hold : Token) (before bytes : List ℕ) (count : ℕ) → Call log j (saved hold before bytes (Ok count)) → (set : ℕ) × Out log j hold set
  saved_out j hold before bytes count here =
      let r = recorded j hold before bytes count here in
      let w : World = world_at m lawful number log after run j in
      let planner : hold.planner ≡ w.number = own w hold (step_at m lawful number log after run j _ here).1.0.0 in
      let lines = r.of_hold.held.lines in
      (lines, ((tracked_at j _ here).holds hold lines).0 (planner, r.of_hold.out))

  saved_right : (j i : ℕ) (hold : Token) (set : ℕ) (before bytes : List ℕ) (count : ℕ) (answer : Result Looked Fault)
      → Call log j (saved hold before bytes (Ok count)) → Out log j hold set → j < i → Call log i (looked (take count bytes) answer)
      → ReadRight log j i set answer
  saved_right j i hold set before bytes count answer here out l there =
      read_right log j i set a b sound held.written r.entries (subst (λ s. EntriesOf a s r.entries) lines_are r.of_hold.of) fate (take count bytes)
      (ap (take count) r.bytes ∙ take_at (encode edition r.entries) (drop count before) count (sym r.length_is))
      answer
      (step_at m lawful number log after run i _ there).1
    where
      a : Contents
      a = book_at m lawful number log after run j

      b : Contents
      b = book_at m lawful number log after run i

      r : Recorded a hold.number before bytes count
      r = recorded j hold before bytes count here

      sound : Sound a
      sound = (tracked_at j _ here).sound

      out_here : a.holds hold.number ≡ Some (record { lines = set })
      out_here = (((tracked_at j _ here).holds hold set).1 out).1

      held : HoldSound a.lines a.next_hold hold.number (record { lines = set })
      held = sound.held hold.number (record { lines = set }) out_here

      lines_are : r.of_hold.held.lines ≡ set
      lines_are = ap (λ x. x.lines) (some_same (sym r.of_hold.out ∙ out_here))

      -- the save itself changes nothing
      stays : book_at m lawful number log after run (suc j) ≡ a
      stays = ap (λ x. x.book) (step_at m lawful number log after run j _ here).0

      fate : (n k : ℕ) → number_at a n ≡ Some k → Fate log j n k i b × (k < b.next)
      fate n k e =
          let up = call_below log i _ there in
          carried m lawful number log after run j n k (ap (λ x. number_at x n) stays ∙ e) (subst (λ x. k < x.next) (sym stays) (number_given a sound n k e).1) i l (omega arith)

  pub records_kept : Records log
  records_kept = record { out = saved_out; kept = saved_right }
