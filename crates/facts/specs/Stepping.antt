-- Steps over lawful facts: what they compute is the smallest set asked for, and they are lawful again.
use Rattle.std.specs.Prelude.{◌≡◌, ℕ, zero, suc, ◌+◌, ◌-◌, ◌^◌, ◌<◌, ◌≤◌, Bool, true, false, cond, List, [], ◌∷◌, ◌++◌, length, get_or, take, drop, ◌==◌, bit_and, bit_or, fold, slice_index_or}
use Rattle.std.proofs.Math.Path.{refl}
use Rattle.std.proofs.Common.{sym, ap, subst, ◌∙◌, inl, inr, ⊎_elim, arith}
use Rattle.std.specs.Int.Bits.{or_zero_r}
use Rattle.std.proofs.lemmas.Nat.{pow_below, or_lt}
use Rattle.std.proofs.lemmas.List.{take_more, drop_more}
use Rattle.std.proofs.lemmas.Bool.Decides.{Decides-eqb, not_from_Decides}
use Rattle.std.specs.List.{AllByRecursion}
use Rattle.sets.specs.Sets.{Has, Within, IsLines, Smallest}
use Rattle.sets.proofs.Lines.{or_has, or_has_left, or_has_right, single_has, single_only, within_from_and, and_from_within, same_lines, smallest_like, or_group}
use Rattle.sets.proofs.Rows.{all_push, all_pushed}
use Rattle.std.proofs.lemmas.List.Elements.{recursion_from_All}
use Rattle.facts.specs.Meaning.{Meaning, Lawful}
use Rattle.facts.specs.Steps.{IsStep, no_step, Obeys, Fires, Closed, Follows, lines_in, lines_of, pass, settle, stepped}
use Rattle.facts.specs.Told.{told}
use Rattle.facts.specs.declared.step.Step.{Step}
use Rattle.facts.specs.declared.steps.Steps.{Steps}
use Rattle.facts.specs.Closure.{Passed}
use Rattle.facts.specs.ClosureLemmas.{passed_none, passed_then, Stable, Reached, reached_start, reached_more, reached_done, reached_less}

-- a step that was tried is obeyed
pub passed_step : (x : Step) (a b : ℕ) → IsLines b → Fires x a b → Passed (λ c. Obeys c x) a b
passed_step x a b l f = record {
  lines = l;
  grows = f.old;
  inside = λ c _ o w n h. ⊎_elim (w n) (λ k. subst (Has c) (sym k.1) (o (λ i g. w i (k.0 i g)))) (f.only n h);
  done = λ e needs. subst (λ s. Has s x.gives) e (f.new needs);
}

one_pass : (x : Step) (s : ℕ) → IsStep x → IsLines s → Passed (λ c. Obeys c x) s (cond (bit_and x.needs s == x.needs) (bit_or s (2 ^ x.gives)) s)
one_pass x s is l = by (bit_and x.needs s == x.needs) refl
  where
    by : (b : Bool) → (bit_and x.needs s == x.needs) ≡ b → Passed (λ c. Obeys c x) s (cond b (bit_or s (2 ^ x.gives)) s)
    by true e =
        let needs = within_from_and x.needs s ((Decides-eqb (bit_and x.needs s) x.needs).0 e) in
        passed_step x s (bit_or s (2 ^ x.gives)) (or_lt 64 s (2 ^ x.gives) l (pow_below x.gives 64 is.1)) (record {
          old = λ n h. or_has_left s (2 ^ x.gives) n h;
          new = λ _. or_has_right s (2 ^ x.gives) x.gives (single_has x.gives);
          only = λ n h. ⊎_elim inl (λ k. inr (needs, single_only x.gives n k)) (or_has s (2 ^ x.gives) n h);
        })
    by false e =
        let out = not_from_Decides _ (Decides-eqb (bit_and x.needs s) x.needs) e in
        passed_step x s s l (record { old = λ n h. h; new = λ w. absurd (out (and_from_within x.needs s w)); only = λ n h. inl h })

pass_passed : (steps : List Step) (s : ℕ) → AllByRecursion IsStep steps → IsLines s → Passed (λ c. AllByRecursion (Obeys c) steps) s (pass steps s)
pass_passed [] s is l = passed_none (λ c. Unit {0}) s l tt
pass_passed (x ∷ xs) s is l =
    let first = one_pass x s is.0 l in
    passed_then (λ c. Obeys c x) (λ c. AllByRecursion (Obeys c) xs) (λ c. Obeys c x × AllByRecursion (Obeys c) xs) s _ _ (λ c e. e) (λ c o os. (o, os)) first
    (pass_passed xs _ is.1 first.lines)

-- the set obeys each of the steps
abbrev pub ObeysAll : List Step → ℕ → Type 0
ObeysAll steps c = AllByRecursion (Obeys c) steps

module _ (m : Meaning) (lawful : Lawful m) (steps : List Step) (are : AllByRecursion IsStep steps) where
  settle_least : (start fuel s : ℕ) → Reached m (ObeysAll steps) start s → 2 ^ 64 - s ≤ fuel → Smallest (Stable m (ObeysAll steps) start) (settle fuel (λ t. m.follow (pass steps t)) s)
  unfolding settle
  settle_least start zero s r room = absurd (omega (arith, r.lines))
  settle_least start (suc fuel) s r room = by (after == s) refl (settle_least start fuel after (reached_more m lawful (ObeysAll steps) start s (pass steps s) after r passed refl))
    where
      after : ℕ
      after = m.follow (pass steps s)

      passed : Passed (ObeysAll steps) s (pass steps s)
      passed = pass_passed steps s are r.lines

      by : (b : Bool) → (after == s) ≡ b → (2 ^ 64 - after ≤ fuel → Smallest (Stable m (ObeysAll steps) start) (settle fuel (λ t. m.follow (pass steps t)) after)) → Smallest (Stable m (ObeysAll steps) start) (elim b [ true ↦ s | false ↦ settle fuel (λ t. m.follow (pass steps t)) after ])
      by true e go = reached_done m lawful (ObeysAll steps) start s (pass steps s) after r passed refl ((Decides-eqb after s).0 e)
      by false e go =
          let less = reached_less m lawful (ObeysAll steps) start s (pass steps s) after r passed refl (not_from_Decides _ (Decides-eqb after s) e) in
          go (omega arith)

  closed_from : (start t : ℕ) → Stable m (ObeysAll steps) start t → Closed m steps start t
  closed_from start t st = record { starts = st.starts; left = st.left; obeys = st.obeys }

  stable_from : (start t : ℕ) → Closed m steps start t → Stable m (ObeysAll steps) start t
  stable_from start t st = record { starts = st.starts; left = st.left; obeys = st.obeys }

  -- the smallest stable set is what follows by the steps
  pub follows_from : (start s : ℕ) → Smallest (Stable m (ObeysAll steps) start) s → Follows m steps start s
  follows_from start s least = smallest_like (Stable m (ObeysAll steps) start) (Closed m steps start) s (closed_from start) (stable_from start) least

  pub stepped_follows : (start : ℕ) → IsLines start → Follows m steps start ((stepped steps m).follow start)
  stepped_follows start l =
      follows_from start _ (settle_least start (2 ^ 64) (m.follow start) (reached_start m lawful (ObeysAll steps) start l) (omega arith))

lines_of_lines : (steps : List Step) → AllByRecursion IsStep steps → IsLines (lines_of steps)
lines_of_lines [] are = omega arith
lines_of_lines (x ∷ xs) are =
    or_lt 64 _ (lines_of xs) (or_lt 64 x.needs (2 ^ x.gives) are.0.0 (pow_below x.gives 64 are.0.1)) (lines_of_lines xs are.1)

-- a set that has every line in the steps obeys them
obeys_named : (steps : List Step) (s : ℕ) → Within (lines_of steps) s → AllByRecursion (Obeys s) steps
obeys_named [] s w = tt
obeys_named (x ∷ xs) s w =
    let own = lines_in x in (
      λ _. w x.gives (or_has_left own (lines_of xs) x.gives (or_has_right x.needs (2 ^ x.gives) x.gives (single_has x.gives))),
      obeys_named xs s (λ n h. w n (or_has_right own (lines_of xs) n h)),
    )

module _ (m : Meaning) (lawful : Lawful m) (steps : List Step) (are : AllByRecursion IsStep steps) where
  follows : (s : ℕ) → IsLines s → Follows m steps s ((stepped steps m).follow s)
  follows = stepped_follows m lawful steps are

  -- the set together with every line that the steps and the facts below name is stable
  named_closed : (s : ℕ) → IsLines s → Closed m steps s (bit_or s (bit_or m.names (lines_of steps)))
  named_closed s l = record {
    starts = λ n h. or_has_left s named n h;
    left = same_lines (m.follow all) all
        (λ n h. ⊎_elim (λ k. k) (λ k. or_has_right s named n (or_has_left m.names (lines_of steps) n k)) (or_has all m.names n (lawful.named all lines n h)))
        (lawful.keeps all lines);
    obeys = obeys_named steps all (λ n h. or_has_right s named n (or_has_right m.names (lines_of steps) n h));
  }
    where
      named : ℕ
      named = bit_or m.names (lines_of steps)

      all : ℕ
      all = bit_or s named

      lines : IsLines all
      lines = or_lt 64 s named l (or_lt 64 m.names (lines_of steps) lawful.names_lines (lines_of_lines steps are))

  pub stepped_lawful : Lawful (stepped steps m)
  stepped_lawful = record {
    names_lines = named_lines;
    follow_lines = λ s l. (follows s l).lines;
    keeps = λ s l. (follows s l).has.starts;
    monotone = λ s t l k w. (follows s l).least (after t) (follows t k).lines (from s t k w);
    settled = λ s l. same_lines (after (after s)) (after s)
        ((follows (after s) (follows s l).lines).least (after s) (follows s l).lines (again s l))
        (follows (after s) (follows s l).lines).has.starts;
    named = λ s l. (follows s l).least (bit_or s (bit_or m.names (lines_of steps))) (or_lt 64 s _ l named_lines) (named_closed s l);
  }
    where
      named_lines : IsLines (bit_or m.names (lines_of steps))
      named_lines = or_lt 64 m.names (lines_of steps) lawful.names_lines (lines_of_lines steps are)

      after : ℕ → ℕ
      after s = (stepped steps m).follow s

      from : (s t : ℕ) → IsLines t → Within s t → Closed m steps s (after t)
      from s t k w = record {
        starts = λ n h. (follows t k).has.starts n (w n h);
        left = (follows t k).has.left;
        obeys = (follows t k).has.obeys;
      }

      again : (s : ℕ) → IsLines s → Closed m steps (after s) (after s)
      again s l = record { starts = λ n h. h; left = (follows s l).has.left; obeys = (follows s l).has.obeys }

-- one step more was passed over
pub pass_more : (steps : List Step) (i s a b : ℕ) → i < length steps → Passed (ObeysAll (take i steps)) s a → Passed (λ c. Obeys c (slice_index_or steps i no_step)) a b → Passed (ObeysAll (take (i + 1) steps)) s b
pass_more steps i s a b lt p q =
    let x = get_or steps i no_step in
    let front : take (i + 1) steps ≡ take i steps ++ x ∷ [] = take_more steps i no_step lt in
    subst (λ ys. Passed (ObeysAll ys) s b) (sym front)
    (passed_then (ObeysAll (take i steps)) (λ c. Obeys c x) (ObeysAll (take i steps ++ x ∷ [])) s a b
    (λ c all. all_pushed (Obeys c) (take i steps) x all) (λ c all here. all_push (Obeys c) (take i steps) x all here) p q)

-- one step more was named
pub named_more : (steps : List Step) (i all : ℕ) → i < length steps → bit_or all (lines_of (drop i steps)) ≡ bit_or (bit_or all (lines_in (slice_index_or steps i no_step))) (lines_of (drop (i + 1) steps))
named_more steps i all lt =
    let x = get_or steps i no_step in
    ap (λ ys. bit_or all (lines_of ys)) (drop_more steps i no_step lt)
    ∙ sym (or_group all (lines_in x) (lines_of (drop (i + 1) steps)))

-- naming the steps one by one names them all
pub named_all : (named : ℕ) (steps : List Step) → bit_or named (lines_of steps) ≡ fold (λ all x. bit_or all (lines_in x)) named steps
named_all named [] = or_zero_r named
named_all named (x ∷ xs) = named_more (x ∷ xs) 0 named (omega arith) ∙ named_all (bit_or named (lines_in x)) xs

-- what was told to facts of steps are steps
pub told_are : {F : Type 0} (f : Steps F) → AllByRecursion IsStep (told f)
told_are f = recursion_from_All IsStep f.rows.items f.steps_fit

-- what a pass over all that was told promises, told of the facts
pub passed_told : {F : Type 0} (f : Steps F) (steps : List Step) (s a : ℕ) → steps ≡ told f → Passed (ObeysAll steps) s a → Passed (ObeysAll (told f)) s a
passed_told f steps s a e p = subst (λ ys. Passed (ObeysAll ys) s a) e p
