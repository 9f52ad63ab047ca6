-- Readings in a list of calls: the joined pages of a full reading are exactly the menus.
use Rattle.std.proofs.Common.{◌≡◌, ℕ, zero, suc, ◌+◌, ◌-◌, ◌^◌, ◌<◌, ◌≤◌, ◌↔◌, List, [], ◌∷◌, ◌++◌, map, length, take, Some, None, Ok, Option, sym, refl, ap, ◌∙◌, subst, inl, inr, arith}
use native.Mathlib.Decide.{dec_lt}
use lib.Bits.{bit_or}
use lib.Count.{ones}
use Rattle.std.proofs.lemmas.List.{append_assoc}
use Rattle.sets.specs.Sets.{IsLines}
use Rattle.sets.proofs.Lines.{or_has_left, or_has_right, under_from_below}
use Rattle.sets.specs.Grounds.{FirstGround}
use Rattle.sets.specs.declared.refusal.Refusal.{Refusal}
use Rattle.facts.specs.Meaning.{Meaning, Lawful}
use Rattle.book.specs.Rows.{at, unless_lines}
use Rattle.book.specs.Contents.{Contents}
use Rattle.book.specs.declared.rows.Rule.{Rule}
use Rattle.book.proofs.Tables.{full_below, union_has}
use Rattle.laws.specs.World.{World, Event, Step, fresh, listed, rules_of, guesses, list_grounds}
use Rattle.laws.specs.Runs.{Run, Call, Change, change, ToPlace, nothing, adds, Since, RulesTold, NamedEmpty}
use Rattle.laws.specs.Law.{Part, Chained, RulesStay, Pages, guesses_of, last_call, joined_pages}
use Rattle.laws.specs.declared.listing.Listing.{Listing}
use Rattle.laws.proofs.Logs.{call_below}
use Rattle.laws.proofs.Soundness.{Sound, full_from_not}
use Rattle.laws.proofs.Tracking.{Tracked, world_at, step_at, tracked, rules_told}
use Rattle.laws.proofs.ReadingParts.{Alike, Stretch, unless_alike, page_stretch, page_rises, stretch_none, stretch_alike, stretch_join, stretch_all}

-- ---- calls behind calls

-- a run goes on where it ended
pub run_join : (m : Meaning) (log more : List Event) (w mid after : World) → Run m w log mid → Run m mid more after → Run m w (log ++ more) after
run_join m [] more w mid after same run = subst (λ x. Run m x more after) same run
run_join m (e ∷ log) more w mid after first run = (first.0, first.1, run_join m log more first.0 mid after first.2 run)

-- what holds of all calls of both
pub calls_join : (P : Event → Type 0) (log more : List Event) → ((i : ℕ) (e : Event) → Call log i e → P e) → ((i : ℕ) (e : Event) → Call more i e → P e) → (i : ℕ) (e : Event) → Call (log ++ more) i e → P e
calls_join P [] more a b i e here = b i e here
calls_join P (x ∷ log) more a b zero e here = a zero e here
calls_join P (x ∷ log) more a b (suc i) e here = calls_join P log more (λ k. a (suc k)) b i e here

-- the calls in front keep their numbers, and those behind have theirs from the length of the front on
pub call_front : (log more : List Event) (i : ℕ) (e : Event) → i < length log → Call log i e ↔ Call (log ++ more) i e
call_front [] more i e lt = absurd (omega arith)
call_front (x ∷ log) more zero e lt = (λ here. here, λ here. here)
call_front (x ∷ log) more (suc i) e lt = call_front log more i e (omega arith)

pub call_behind : (log more : List Event) (i k : ℕ) (e : Event) → k ≡ length log + i → Call more i e ↔ Call (log ++ more) k e
call_behind [] more i k e at = let same : k ≡ i = omega arith in (λ here. rw same here, λ here. rw same at here)
call_behind (x ∷ log) more i zero e at = absurd (omega arith)
call_behind (x ∷ log) more i (suc k) e at = call_behind log more i k e (omega arith)

-- one list of a reading, n calls later
abbrev pub later : ℕ → Part → Part
later n p = record { call = n + p.call; from = p.from; before = p.before; after = p.after; answer = p.answer }

-- a reading in the calls behind
pub chained_behind : (log more : List Event) (parts : List Part) (least n from end : ℕ) → n ≤ length log + least → Chained more least from parts end → Chained (log ++ more) n from (map (later (length log)) parts) end
chained_behind log more [] least n from end le c = c
chained_behind log more (p ∷ parts) least n from end le c =
    (omega (arith, c.0), c.1, c.2, (call_behind log more p.call _ _ refl).0 c.3, chained_behind log more parts (p.call + 1) (length log + p.call + 1) p.answer.next end (omega arith) c.4)

-- a reading in the calls in front goes on in those behind
pub chained_join : (log more : List Event) (parts rest : List Part) (least from mid end : ℕ) → least ≤ length log → Chained log least from parts mid → Chained more 0 mid rest end
    → Chained (log ++ more) least from (parts ++ map (later (length log)) rest) end
chained_join log more [] rest least from mid end le same c = chained_behind log more rest 0 least from end (omega arith) (rw same c)
chained_join log more (p ∷ parts) rest least from mid end le c d =
    let lt = call_below log p.call _ c.3 in
    (c.0, c.1, c.2, (call_front log more p.call _ lt).0 c.3, chained_join log more parts rest (p.call + 1) p.answer.next mid end (omega arith) c.4 d)

-- and its pages behind those in front
pub pages_later : (n : ℕ) (parts : List Part) → joined_pages (map (later n) parts) ≡ joined_pages parts
pages_later n [] = refl
pages_later n (p ∷ parts) = ap (λ sets. take p.answer.count p.after ++ sets) (pages_later n parts)

pub pages_join : (n : ℕ) (parts rest : List Part) → joined_pages (parts ++ map (later n) rest) ≡ joined_pages parts ++ joined_pages rest
pages_join n [] rest = pages_later n rest
pages_join n (p ∷ parts) rest =
    let front = take p.answer.count p.after in
    ap (λ sets. front ++ sets) (pages_join n parts rest) ∙ sym (append_assoc front (joined_pages parts) (joined_pages rest))

-- ---- what lasts

module _ (log : List Event) where
  -- what lasts until call i lasts until call j, if no call between undoes it; and what lasts until call j lasted until call i, if none makes it
  module _ (made undone : Change → Type 0) (i j : ℕ) (le : i ≤ j) where
    pub since_later : ((k : ℕ) (e : Event) → i ≤ k → k < j → Call log k e → undone (change e) → ⊥) → Since made undone log i → Since made undone log j
    since_later none s = record {
      call = s.call;
      event = s.event;
      earlier = omega (arith, s.earlier);
      here = s.here;
      did = s.did;
      not_since = λ k e after before. elim (dec_lt k i) [ yes old ↦ s.not_since k e after old | no new ↦ none k e (omega arith) before ];
    }

    pub since_earlier : ((k : ℕ) (e : Event) → i ≤ k → k < j → Call log k e → made (change e) → ⊥) → Since made undone log j → Since made undone log i
    since_earlier none s = record {
      call = s.call;
      event = s.event;
      earlier = elim (dec_lt s.call i) [ yes old ↦ old | no new ↦ absurd (none s.call s.event (omega arith) s.earlier s.here s.did) ];
      here = s.here;
      did = s.did;
      not_since = λ k e after before. s.not_since k e after (omega arith);
    }

  -- rules told before call i are told until after the call `last`, if no rule or unrule was accepted from the one to the other
  pub told_later : (i j last : ℕ) (rules : List (Option Rule)) → i ≤ j → j ≤ last + 1 → RulesStay log i last → RulesTold log i rules → RulesTold log j rules
  told_later i j last rules le upto stay t = record {
    told = λ place rule s. t.told place rule (since_earlier (λ c. c ≡ adds place rule) (ToPlace place) i j le (λ k e up lt here did. stay k place e up (omega arith) here (inl (rule, did))) s);
    only = λ place rule at_place. since_later (λ c. c ≡ adds place rule) (ToPlace place) i j le (λ k e up lt. stay k place e up (omega arith)) (t.only place rule at_place);
  }

  -- two tables told at one moment have the same rules
  pub told_alike : (i : ℕ) (rules others : List (Option Rule)) → RulesTold log i rules → RulesTold log i others → Alike rules others
  told_alike i rules others a b p = by (at rules p) (at others p) refl refl
    where
      by : (o q : Option Rule) → at rules p ≡ o → at others p ≡ q → at rules p ≡ at others p
      by (Some x) q e f = e ∙ sym (b.told p x (a.only p x e))
      by None (Some y) e f = a.told p y (b.only p y f) ∙ sym f
      by None None e f = e ∙ sym f

-- both lists have the same calls before call i
abbrev SameCalls : List Event → List Event → ℕ → Type 0
SameCalls log other i = (k : ℕ) (e : Event) → k < i → Call log k e ↔ Call other k e

since_same : {made undone : Change → Type 0} (log other : List Event) (i : ℕ) → SameCalls log other i → Since made undone log i → Since made undone other i
since_same log other i same s = record {
  call = s.call;
  event = s.event;
  earlier = s.earlier;
  here = (same s.call s.event s.earlier).0 s.here;
  did = s.did;
  not_since = λ k e after before here. s.not_since k e after before ((same k e before).1 here);
}

-- what the calls in front tell, they tell with others behind them
module _ (log more : List Event) where
  front : SameCalls log (log ++ more) (length log)
  front k e lt = call_front log more k e lt

  back : SameCalls (log ++ more) log (length log)
  back k e lt = let same = call_front log more k e lt in (same.1, same.0)

  pub told_front : (rules : List (Option Rule)) → RulesTold log (length log) rules → RulesTold (log ++ more) (length log) rules
  told_front rules t = record {
    told = λ place rule s. t.told place rule (since_same (log ++ more) log (length log) back s);
    only = λ place rule here. since_same log (log ++ more) (length log) front (t.only place rule here);
  }

  pub named_front : (m : Meaning) → NamedEmpty m log (length log) ↔ NamedEmpty m (log ++ more) (length log)
  named_front m = (
    λ named. (named.0, named.1, λ written. named.2 (since_same (log ++ more) log (length log) back written)),
    λ named. (named.0, named.1, λ written. named.2 (since_same log (log ++ more) (length log) front written)),
  )

-- calls that change nothing leave the rules as they were
nothing_to_place : (place : ℕ) (c : Change) → c ≡ nothing → ToPlace place c → ⊥
nothing_to_place place c same (inl (rule, e)) = let z : ◌≡◌ {A = ℕ} 0 1 = cc in omega arith
nothing_to_place place c same (inr e) = let z : ◌≡◌ {A = ℕ} 0 1 = cc in omega arith

pub rules_stay : (log more : List Event) (last : ℕ) → ((i : ℕ) (e : Event) → Call more i e → change e ≡ nothing) → RulesStay (log ++ more) (length log) last
rules_stay log more last unchanged k place e up upto here = nothing_to_place place (change e) (unchanged (k - length log) e ((call_behind log more (k - length log) k e (omega arith)).1 here))

-- a reading ends no earlier than it starts
last_after : (log : List Event) (p : Part) (ps : List Part) (least from end : ℕ) → Chained log least from (p ∷ ps) end → p.call ≤ last_call p ps
last_after log p [] least from end c = omega arith
last_after log p (q ∷ ps) least from end c = omega (arith, c.4.0, last_after log q ps (p.call + 1) p.answer.next end c.4)

-- the lines that a sound book guesses about are a set of lines, since a rule names written lines only
unless_lines_are : (c : Contents) → Sound c → IsLines (unless_lines c.rules)
unless_lines_are c sound = under_from_below 64 (unless_lines c.rules) (λ n h.
    let r = union_has (λ x. x.unless) c.rules n h in
    let named = or_has_left (bit_or r.1.needs r.1.unless) (2 ^ r.1.gives) n (or_has_right r.1.needs r.1.unless n r.3) in
    omega (arith, sound.lines_are, full_below c.lines n (sound.ruled r.0 r.1 r.2 n named)))

-- Of a run whose planner was in these worlds.
module _ (m : Meaning) (number : ℕ) (log : List Event) (worlds : ℕ → World)
    (steps : (i : ℕ) (e : Event) → Call log i e → Step m (worlds i) e (worlds (suc i)))
    (tells : (i : ℕ) → i ≤ length log → RulesTold log i (rules_of (worlds i)))
    (tracks : (i : ℕ) → i ≤ length log → Tracked number log i (worlds i)) where
  -- before a call, rules told are the world's
  module _ (i : ℕ) (e : Event) (here : Call log i e) (rules : List (Option Rule)) (told : RulesTold log i rules) where
    same_rules : Alike (rules_of (worlds i)) rules
    same_rules = told_alike log i (rules_of (worlds i)) rules (tells i (omega (arith, call_below log i e here))) told

    same_unless : unless_lines (rules_of (worlds i)) ≡ unless_lines rules
    same_unless = unless_alike (rules_of (worlds i)) rules same_rules

    same_guesses : guesses (worlds i) ≡ guesses_of rules
    same_guesses = ap (λ u. 2 ^ ones u) same_unless

    told_lines : IsLines (unless_lines rules)
    told_lines = rw (← same_unless) (unless_lines_are (worlds i).book (tracks i (omega (arith, call_below log i e here))).sound)

  -- the menus that an accepted list wrote
  part_stretch : (rules : List (Option Rule)) (p : Part) → Call log p.call (listed p.from p.before p.after (Ok p.answer)) → RulesTold log p.call rules
      → Stretch m rules p.from p.answer.next (take p.answer.count p.after)
  part_stretch rules p here told =
      stretch_alike m (rules_of (worlds p.call)) rules (same_rules p.call _ here rules told) p.from p.answer.next (take p.answer.count p.after)
      (page_stretch m (worlds p.call) p.from p.before p.after p.answer.count p.answer.next (steps p.call _ here).1.1)

  -- the menus that the lists of a reading wrote: the first, before those that wrote `sets`, and all of them
  module _ (rules : List (Option Rule)) where
    first_stretch : (p : Part) (ps : List Part) (least from end : ℕ) (sets : List ℕ) → RulesTold log least rules → RulesStay log least (last_call p ps) → Chained log least from (p ∷ ps) end
        → Stretch m rules p.answer.next end sets → Stretch m rules from end (take p.answer.count p.after ++ sets)
    first_stretch p ps least from end sets told stay c rest =
        let now = told_later log least p.call (last_call p ps) rules c.0 (omega (arith, last_after log p ps least from end c)) stay told in
        stretch_join m rules (told_lines p.call _ c.3 rules now) from p.answer.next end (take p.answer.count p.after) sets
        (rw c.1 at (part_stretch rules p c.3 now)) rest

    reading_stretch : (p : Part) (ps : List Part) (least from end : ℕ) → RulesTold log least rules → RulesStay log least (last_call p ps) → Chained log least from (p ∷ ps) end
        → Stretch m rules from end (joined_pages (p ∷ ps))
    reading_stretch p [] least from end told stay c = first_stretch p [] least from end [] told stay c (rw c.4 (stretch_none m rules end))
    reading_stretch p (q ∷ ps) least from end told stay c =
        let upto = last_after log p (q ∷ ps) least from end c in
        let now = told_later log least (p.call + 1) (last_call q ps) rules (omega (arith, c.0)) (omega (arith, upto)) stay told in
        let rest = reading_stretch q ps (p.call + 1) p.answer.next end now (λ k place e up. stay k place e (omega (arith, c.0, up))) c.4 in
        first_stretch p (q ∷ ps) least from end (joined_pages (q ∷ ps)) told stay c rest

  -- a list from at most the number of guesses is refused only where the facts name an empty line
  named_empty : (i from : ℕ) (e : Refusal) → i ≤ length log → from ≤ guesses (worlds i) → FirstGround (list_grounds m (worlds i) from) e → NamedEmpty m log i
  named_empty i from e le low (inl named) = let n = named.0 in (n.0, n.1, λ written. n.2 (((tracks i le).written n.0).1 written))
  named_empty i from e le low (inr (none, inl high)) = absurd (omega arith)
  named_empty i from e le low (inr (none, inr (other, nothing_left))) = absurd nothing_left

  -- of an accepted list: the facts name no empty line, and there is no guess behind its next
  accepted : (i from : ℕ) (before after : List ℕ) (answer : Listing) → Call log i (listed from before after (Ok answer))
      → (NamedEmpty m log i → ⊥) × ((rules : List (Option Rule)) → RulesTold log i rules → answer.next ≤ guesses_of rules)
  accepted i from before after answer here =
      let step = (steps i _ here).1 in
      let lt = call_below log i _ here in (
        λ named. named.2 (((tracks i (omega arith)).written named.0).0 (full_from_not (worlds i).book.lines named.0 (λ vacant. step.0.0 (named.0, named.1, vacant)))),
        λ rules told. omega (arith, step.1.upto, same_guesses i _ here rules told),
      )

  pages : Pages m log
  pages = record {
    told = λ i le. (rules_of (worlds i), tells i le);
    refused = λ i from before after e rules here told low.
        named_empty i from e (omega (arith, call_below log i _ here)) (omega (arith, same_guesses i _ here rules told)) (steps i _ here).1.0;
    rises = λ i from before after answer rules here told low room.
        page_rises m (worlds i) from before after answer.count answer.next (omega arith) (omega (arith, same_guesses i _ here rules told)) (steps i _ here).1.1;
    exact = λ first rest rules told chain stay.
        stretch_all m rules (told_lines first.call _ chain.3 rules told) (joined_pages (first ∷ rest))
        (reading_stretch rules first rest first.call 0 (guesses_of rules) told stay (omega arith, chain.1, chain.2, chain.3, chain.4));
  }

-- of every run of a new planner
pub pages_kept : (m : Meaning) → Lawful m → (number : ℕ) (log : List Event) (after : World) → Run m (fresh number) log after → Pages m log
pages_kept m lawful number log after run =
    pages m number log (world_at m lawful number log after run) (step_at m lawful number log after run) (rules_told m lawful number log after run) (tracked m lawful number log after run)

pub list_accepted : (m : Meaning) → Lawful m → (number : ℕ) (log : List Event) (last : World) → Run m (fresh number) log last → (i from : ℕ) (before after : List ℕ) (answer : Listing)
    → Call log i (listed from before after (Ok answer)) → (NamedEmpty m log i → ⊥) × ((rules : List (Option Rule)) → RulesTold log i rules → answer.next ≤ guesses_of rules)
list_accepted m lawful number log last run =
    accepted m number log (world_at m lawful number log last run) (step_at m lawful number log last run) (rules_told m lawful number log last run) (tracked m lawful number log last run)
