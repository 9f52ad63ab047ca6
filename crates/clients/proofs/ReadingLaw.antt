-- A full reading of a planner that calls led to, by the law: it holds of those calls, with the lists behind them, and with any call that could come next.
use Rattle.std.proofs.Common.{◌≡◌, ℕ, ◌≤◌, List, [], ◌∷◌, ◌++◌, map, length, Ok, Err, Option, Result, refl, inl, inr, arith, pow_pos}
use native.Mathlib.Decide.{dec_lt}
use lib.Count.{ones}
use Rattle.sets.specs.Grounds.{FirstGround, Answered}
use Rattle.sets.specs.declared.refusal.Refusal.{Refusal}
use Rattle.sets.specs.declared.refusal.Refusal.TheVariants.{FactsNameEmpty}
use Rattle.facts.specs.Meaning.{Meaning, Lawful}
use Rattle.book.specs.Rows.{unless_lines}
use Rattle.book.specs.declared.rows.Rule.{Rule}
use Rattle.laws.specs.World.{World, Event, Page, NameEmpty, fresh, listed, guesses}
use Rattle.laws.specs.Runs.{Run, Call, RulesTold, NamedEmpty, change, nothing}
use Rattle.laws.specs.Law.{Part, Chained, RulesStay, Pages, ExactlyMenus, guesses_of, last_call, joined_pages}
use Rattle.laws.proofs.Lawful.{law_kept}
use Rattle.laws.proofs.Readings.{later, run_join, call_behind, chained_behind, pages_later, told_front, named_front, told_later, rules_stay, list_accepted}
use Rattle.planner.specs.Complete.{FullReading, ReadAll, ReadByLists, reading_grounds}
use Rattle.clients.specs.Reading.{MenusRead, menu_grounds}

-- a list from the end, which is accepted and writes nothing
abbrev end_list : World → Event
end_list w = listed (guesses w) (0 ∷ []) (0 ∷ []) (Ok (record { count = 0; next = guesses w }))

end_page : (m : Meaning) (w : World) → Page m w (guesses w) (0 ∷ []) (0 ∷ []) 0 (guesses w)
end_page m w = record {
  rises = omega arith;
  upto = omega arith;
  each = λ i lt. absurd (omega arith);
  every = λ s g menu guess up lt. absurd (omega arith);
  ordered = λ i j lt lj. absurd (omega arith);
  few = omega arith;
  at_end = λ e. (refl, refl);
  fits = omega arith;
  same_length = refl;
  stays = refl;
  goes_on = λ lt. refl;
  no_place = λ e. refl;
  full = λ lt. absurd (omega arith);
}

module _ (m : Meaning) (lawful : Lawful m) (number : ℕ) (log : List Event) (w : World) (run : Run m (fresh number) log w) where
  -- the rules that the calls tell
  rules_now : List (Option Rule)
  rules_now = ((law_kept m lawful number log w run).pages.told (length log) (omega arith)).0

  told_now : RulesTold log (length log) rules_now
  unfolding rules_now
  told_now = ((law_kept m lawful number log w run).pages.told (length log) (omega arith)).1

  -- other calls behind these, that leave the planner as it is
  module _ (more : List Event) (on : Run m w more w) where
    run_on : Run m (fresh number) (log ++ more) w
    run_on = run_join m log more (fresh number) w w run on

    pages_on : Pages m (log ++ more)
    pages_on = (law_kept m lawful number (log ++ more) w run_on).pages

    -- a full reading by calls that change nothing
    menus_on : ((i : ℕ) (e : Event) → Call more i e → change e ≡ nothing) → (rules : List (Option Rule)) → RulesTold log (length log) rules → (parts : List Part) → Chained more 0 0 parts (guesses_of rules)
        → ExactlyMenus m rules (joined_pages parts)
    menus_on unchanged rules told [] c = absurd (omega (arith, c, pow_pos (ones (unless_lines rules))))
    menus_on unchanged rules told (p ∷ parts) c =
        let q = later (length log) p in
        let qs = map (later (length log)) parts in
        let first = told_later (log ++ more) (length log) q.call q.call rules (omega arith) (omega arith) (rules_stay log more q.call unchanged) (told_front log more rules told) in
        let stay : RulesStay (log ++ more) q.call (last_call q qs) = λ k place e up. rules_stay log more (last_call q qs) unchanged k place e (omega arith) in
        rw (pages_later (length log) (p ∷ parts)) at (pages_on.exact q qs rules first (chained_behind log more (p ∷ parts) 0 0 0 (guesses_of rules) (omega arith) c) stay)

  -- the next call
  next_call : (e : Event) → Call (log ++ e ∷ []) (length log) e
  next_call e = (call_behind log (e ∷ []) 0 (length log) e (omega arith)).0 refl

  -- Facts that name an empty line do so by the calls: a list would be refused for it.
  named_told : NameEmpty m w → NamedEmpty m log (length log)
  named_told named =
      let list = listed 0 [] [] (Err FactsNameEmpty) in
      let on : Run m w (list ∷ []) w = (w, (refl, (inl (named, refl), refl)), refl) in
      (named_front log (list ∷ []) m).1 ((pages_on (list ∷ []) on).refused (length log) 0 [] [] FactsNameEmpty rules_now (next_call list) (told_front log (list ∷ []) rules_now told_now) (omega arith))

  -- Else a list from the end would be accepted: they do not by the calls either, and there are as many guesses as the rules told have.
  module _ (none : NameEmpty m w → ⊥) where
    ends : Run m w (end_list w ∷ []) w
    ends = (w, (refl, ((none, (λ lt. omega arith, tt)), end_page m w)), refl)

    accepted : (NamedEmpty m (log ++ end_list w ∷ []) (length log) → ⊥) × ((rules : List (Option Rule)) → RulesTold (log ++ end_list w ∷ []) (length log) rules → guesses w ≤ guesses_of rules)
    accepted = list_accepted m lawful number (log ++ end_list w ∷ []) w (run_on (end_list w ∷ []) ends) (length log) _ _ _ _ (next_call (end_list w))

    not_told : NamedEmpty m log (length log) → ⊥
    not_told named = accepted.0 ((named_front log (end_list w ∷ []) m).0 named)

    guesses_told : (rules : List (Option Rule)) → RulesTold log (length log) rules → guesses w ≡ guesses_of rules
    guesses_told rules told =
        let on = told_front log (end_list w ∷ []) rules told in
        let upto = accepted.1 rules on in
        elim (dec_lt (guesses w) (guesses_of rules)) [
          | yes lt ↦ absurd (omega (arith, (pages_on (end_list w ∷ []) ends).rises (length log) _ _ _ _ rules (next_call (end_list w)) on lt (omega arith)))
          | no ge ↦ omega arith
        ]

    menus_told : (sets : List ℕ) → FullReading m w sets → ExactlyMenus m rules_now sets
    menus_told sets reading =
        rw reading.pages (menus_on reading.lists reading.run reading.unchanged rules_now told_now reading.parts (rw (guesses_told rules_now told_now) at reading.chained))

  module _ (before after : List ℕ) where
    ground : (e : Refusal) → FirstGround (reading_grounds m w (length before)) e → FirstGround (menu_grounds m log (length before)) e
    ground e (inl (named, is)) = inl (named_told named, is)
    ground e (inr (none, inl (short, is))) = inr (not_told none, inl ((rules_now, told_now, omega (arith, guesses_told none rules_now told_now)), is))
    ground e (inr (none, inr (fits, nothing_left))) = absurd nothing_left

    pub read_by_calls : (answer : Result ℕ Refusal) → ReadAll m w before after answer → ReadByLists m w after answer → Answered (menu_grounds m log (length before)) (MenusRead m log before after) (after ≡ before) answer
    read_by_calls (Err e) read lists = (ground e read.0, read.1)
    read_by_calls (Ok count) read lists =
        let none = read.0.0 in
        let complete = read.1 in (
          (not_told none, (λ few. read.0.1.0 (omega (arith, few.2, guesses_told none few.0 few.1)), tt)),
          record {
            rules = rules_now;
            told = told_now;
            exactly_menus = menus_told none _ lists.reading;
            fits = complete.fits;
            same_length = complete.same_length;
            stays = complete.stays;
          },
        )
