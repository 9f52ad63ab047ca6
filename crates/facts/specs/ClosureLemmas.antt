-- The smallest set that the facts leave as it is and that obeys some rows, reached by passes over the rows: one pass adds only what every
-- such set has, and a pass that adds nothing shows that the set obeys the rows.
use Rattle.std.specs.Prelude.{◌≡◌, ℕ, ◌-◌, ◌^◌, ◌<◌, ◌≤◌, ◌≢◌, ◌⊎◌}
use Rattle.std.proofs.Common.{sym, ap, subst, ◌∙◌, ⊎_elim, arith}
use Rattle.sets.specs.Sets.{Has, Within, IsLines, Smallest}
use Rattle.sets.proofs.Lines.{within_le, same_lines}
use Rattle.facts.specs.Meaning.{Meaning, Lawful}
use Rattle.facts.specs.Closure.{Passed}

-- a set that obeys the rows already
pub passed_none : (C : ℕ → Type 0) (s : ℕ) → IsLines s → C s → Passed C s s
passed_none C s l c = record { lines = l; grows = λ n h. h; inside = λ _ _ _ w. w; done = λ _. c }

-- A row that adds the line g, which every set that obeys it and has a has.
pub passed_line : (C : ℕ → Type 0) (a b g : ℕ) → IsLines b → Within a b → ((n : ℕ) → Has b n → Has a n ⊎ (n ≡ g)) → ((c : ℕ) → C c → Within a c → Has c g) → C b → Passed C a b
passed_line C a b g l up only needed obeyed = record {
  lines = l;
  grows = up;
  inside = λ c _ d w n h. ⊎_elim (w n) (λ e. subst (Has c) (sym e) (needed c d w)) (only n h);
  done = λ e. subst C e obeyed;
}

-- One pass after another, over the rows of both.
pub passed_then : (C D E : ℕ → Type 0) (s a b : ℕ) → ((c : ℕ) → E c → C c × D c) → ((c : ℕ) → C c → D c → E c) → Passed C s a → Passed D a b → Passed E s b
passed_then C D E s a b parts both p q = record {
  lines = q.lines;
  grows = λ n h. q.grows n (p.grows n h);
  inside = λ c k e w. q.inside c k (parts c e).1 (p.inside c k (parts c e).0 w);
  done = λ e.
      let back : Within a s = λ n h. subst (λ x. Has x n) e (q.grows n h) in
      let same : a ≡ s = same_lines a s back p.grows in
      both s (p.done same) (subst D same (q.done (e ∙ sym same)));
}

-- what is asked of the set: it has the start, the facts leave it as it is, and it obeys the rows
pub record Stable (m : Meaning) (C : ℕ → Type 0) (start s : ℕ) : Type 0 where
  pub starts : Within start s
  pub left : m.follow s ≡ s
  pub obeys : C s

-- s is on the way: it has the start and lies in every stable set
pub record Reached (m : Meaning) (C : ℕ → Type 0) (start s : ℕ) : Type 0 where
  pub lines : IsLines s
  pub starts : Within start s
  pub inside : (t : ℕ) → IsLines t → Stable m C start t → Within s t

module _ (m : Meaning) (lawful : Lawful m) (C : ℕ → Type 0) (start : ℕ) where
  -- what lies in a stable set still does once it is followed
  follow_inside : (s t : ℕ) → IsLines s → IsLines t → Stable m C start t → Within s t → Within (m.follow s) t
  follow_inside s t l k st w n h = subst (λ x. Has x n) st.left (lawful.monotone s t l k w n h)

  pub reached_start : IsLines start → Reached m C start (m.follow start)
  reached_start l = record {
    lines = lawful.follow_lines start l;
    starts = lawful.keeps start l;
    inside = λ t k st. follow_inside start t l k st st.starts;
  }

  -- One turn: a pass from s to a, and r follows from a.
  module _ (s a r : ℕ) (at : Reached m C start s) (passed : Passed C s a) (followed : r ≡ m.follow a) where
    reached_follow : Reached m C start (m.follow a)
    reached_follow = record {
      lines = lawful.follow_lines a passed.lines;
      starts = λ n h. lawful.keeps a passed.lines n (passed.grows n (at.starts n h));
      inside = λ t k st. follow_inside a t passed.lines k st (passed.inside t k st.obeys (at.inside t k st));
    }

    pub reached_more : Reached m C start r
    reached_more = subst (Reached m C start) (sym followed) reached_follow

    -- a turn that adds nothing: the set is the smallest stable one
    pub reached_done : r ≡ s → Smallest (Stable m C start) s
    reached_done e = record {
      lines = at.lines;
      has = record {
        starts = at.starts;
        left = ap m.follow (sym still) ∙ lawful.settled a passed.lines ∙ still;
        obeys = passed.done same;
      };
      least = at.inside;
    }
      where
        still : m.follow a ≡ s
        still = sym followed ∙ e

        same : a ≡ s
        same = same_lines a s (λ n h. subst (λ x. Has x n) still (lawful.keeps a passed.lines n h)) passed.grows

    -- any other turn leaves less to add
    pub reached_less : r ≢ s → 2 ^ 64 - r < 2 ^ 64 - s
    reached_less other =
        let grown : s ≤ m.follow a = within_le s (m.follow a) (λ n h. lawful.keeps a passed.lines n (passed.grows n h)) in
        let room : s < 2 ^ 64 = at.lines in
        omega arith
