-- The laws of menus, over any lawful facts and for any set u that has every unless-line of the rules.
use Rattle.std.proofs.Common.{◌≡◌, ℕ, ◌<◌, List, Some, Option, sym, refl, subst, ⊎_elim}
use lib.Bits.{bit_and, bit_or, or_lt}
use Rattle.sets.specs.Sets.{Has, Within, IsLines, Smallest}
use Rattle.sets.specs.Picks.{Picks}
use Rattle.sets.proofs.Lines.{and_has, and_has_left, and_has_right, or_has, or_has_left, or_has_right, same_lines, smallest_like, smallest_same}
use Rattle.sets.proofs.Picking.{picks_same, guess_same, guess_of, guess_order}
use Rattle.facts.specs.Meaning.{Meaning, Lawful}
use Rattle.book.specs.Rows.{at, unless_lines}
use Rattle.book.specs.declared.rows.Rule.{Rule}
use Rattle.book.proofs.Tables.{union_at}
use Rattle.laws.specs.Menus.{Open, Closed, Menu, Covers, GuessOf, Before}
use Rattle.laws.specs.Laws.{Found, MenuLaws}

-- the lines in unless-sets cover the rules
pub unless_covers : (rules : List (Option Rule)) → Covers (unless_lines rules) rules
unless_covers rules p r e n h = union_at (λ x. x.unless) rules p n r e h

module _ (m : Meaning) (rules : List (Option Rule)) where
  -- sets that are alike in the lines of unless-sets leave the same rules open
  module _ (u : ℕ) (covers : Covers u rules) (e : ℕ) where
    open_less : (p : ℕ) (r : Rule) → at rules p ≡ Some r → Open r e → Open r (bit_and e u)
    open_less p r here free n h k = free n h (and_has_left e u n k)

    open_more : (p : ℕ) (r : Rule) → at rules p ≡ Some r → Open r (bit_and e u) → Open r e
    open_more p r here free n h k = free n h (and_has e u n k (covers p r here n h))

    closed_less : (s : ℕ) → Closed m rules e s → Closed m rules (bit_and e u) s
    closed_less s c = record { left = c.left; obeys = λ p r here free. c.obeys p r here (open_more p r here free) }

    closed_more : (s : ℕ) → Closed m rules (bit_and e u) s → Closed m rules e s
    closed_more s c = record { left = c.left; obeys = λ p r here free. c.obeys p r here (open_less p r here free) }

    pub smallest_less : (s : ℕ) → Smallest (Closed m rules e) s → Smallest (Closed m rules (bit_and e u)) s
    smallest_less s = smallest_like (Closed m rules e) (Closed m rules (bit_and e u)) s closed_less closed_more

    pub smallest_more : (s : ℕ) → Smallest (Closed m rules (bit_and e u)) s → Smallest (Closed m rules e) s
    smallest_more s = smallest_like (Closed m rules (bit_and e u)) (Closed m rules e) s closed_more closed_less

  -- a found set is a menu
  pub menu_from_found : (u : ℕ) → Covers u rules → (g s : ℕ) → Found m rules u g s → Menu m rules s
  menu_from_found u covers g s f = smallest_more u covers s s (subst (λ e. Smallest (Closed m rules e) s) (sym f.agrees) f.least)

  -- and the guess that found it is its own
  pub picks_from_found : (u g s : ℕ) → Found m rules u g s → Picks u g (bit_and s u)
  picks_from_found u g s f = subst (Picks u g) (sym f.agrees) f.picked

  -- a menu is found from its guess
  pub found_from_menu : (u : ℕ) → Covers u rules → (g s : ℕ) → Menu m rules s → Picks u g (bit_and s u) → Found m rules u g s
  found_from_menu u covers g s menu picks = record { guess = bit_and s u; picked = picks; least = smallest_less u covers s s menu; agrees = refl }

  -- one guess finds at most one set
  pub found_same : (u g s t : ℕ) → Found m rules u g s → Found m rules u g t → s ≡ t
  found_same u g s t a b =
      let same = picks_same u g a.guess b.guess a.picked b.picked in
      smallest_same (Closed m rules b.guess) s t (subst (λ e. Smallest (Closed m rules e) s) same a.least) b.least

  -- no menu lies within another
  pub menus_apart : (e d : ℕ) → Menu m rules e → Menu m rules d → Within e d → e ≡ d
  menus_apart e d a b w =
      let closed : Closed m rules d e = record { left = a.has.left; obeys = λ p r here free. a.has.obeys p r here (λ n h k. free n h (w n k)) } in
      same_lines e d w (b.least e a.lines closed)

  -- a menu lies within the facts' names and the lines that rules give
  pub menu_within : Lawful m → (given : ℕ) → IsLines given → ((p : ℕ) (r : Rule) → at rules p ≡ Some r → Has given r.gives) → (e : ℕ) → Menu m rules e → Within e (bit_or m.names given)
  menu_within lawful given lines gives e menu = menu.least all all_lines (record { left = left; obeys = λ p r here free needs. or_has_right m.names given r.gives (gives p r here) })
    where
      all : ℕ
      all = bit_or m.names given

      all_lines : IsLines all
      all_lines = or_lt 64 m.names given lawful.names_lines lines

      left : m.follow all ≡ all
      left = same_lines (m.follow all) all
          (λ n h. ⊎_elim (λ k. k) (λ k. or_has_left m.names given n k) (or_has all m.names n (lawful.named all all_lines n h)))
          (lawful.keeps all all_lines)

-- every set has a guess, and only one
pub guess_exists : (u s : ℕ) → IsLines u → (g : ℕ) × GuessOf u s g
guess_exists u s l =
    let g = guess_of u (bit_and s u) l (λ n h. and_has_right s u n h) in
    (g.0, record { below = g.1; picks = g.2 })

pub guess_only : (u s g h : ℕ) → IsLines u → GuessOf u s g → GuessOf u s h → g ≡ h
guess_only u s g h l a b = guess_same u g h (bit_and s u) l a.below b.below a.picks b.picks

-- of two sets the one with the lower guess comes first
pub before_from_guess : (u s t g h : ℕ) → IsLines u → g < h → GuessOf u s g → GuessOf u t h → Before u s t
before_from_guess u s t g h l lt a b =
    let o = guess_order u g h (bit_and s u) (bit_and t u) l lt b.below a.picks b.picks in
    record {
      line = o.0;
      guessed = o.1;
      lacks = λ k. o.2 (and_has s u o.0 k o.1);
      has = and_has_left t u o.0 o.3;
      alike = λ n above k. (λ x. and_has_left t u n ((o.4 n above k).0 (and_has s u n x k)), λ x. and_has_left s u n ((o.4 n above k).1 (and_has t u n x k)));
    }

-- all of it, of any lawful facts
pub menu_laws : (m : Meaning) → Lawful m → MenuLaws m
menu_laws m lawful = record {
  one_guess = λ rules u l covers e menu.
      let g = guess_exists u e l in (
        g.0,
        g.1.below,
        found_from_menu m rules u covers g.0 e menu g.1.picks,
        λ h below f. guess_only u e h g.0 l (record { below = below; picks = picks_from_found m rules u h e f }) g.1,
      );
  found_menu = λ rules u covers g s f. menu_from_found m rules u covers g s f;
  apart = menus_apart m;
  inside = λ rules given l gives e menu. menu_within m rules lawful given l gives e menu;
}
