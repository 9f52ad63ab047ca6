-- A full reading on its way: one page more.
use Rattle.std.proofs.Common.{◌≡◌, ℕ, zero, suc, ◌+◌, ◌-◌, ◌<◌, ◌≤◌, List, [], ◌∷◌, ◌++◌, map, length, get_or, take, drop, set, Ok, sym, refl, ap, ◌∙◌, subst, subst₂, arith}
use borrow.Rule.Slice.PartMut.{put_mid, same_len_mid}
use Rattle.std.proofs.Math.ListN.{get_or-append}
use Rattle.std.proofs.lemmas.List.{get_or-take, get_or-append-add, append-nil, append_assoc, length_push, length-set, length-drop, length-take-le, take_more_set, drop-set-lt, drop-drop}
use Rattle.std.proofs.lemmas.Slice.{take-put_mid, drop-put_mid}
use Rattle.sets.specs.Sets.{IsLines}
use Rattle.facts.specs.Meaning.{Meaning}
use Rattle.laws.specs.Menus.{Before}
use Rattle.laws.specs.Law.{ExactlyMenus}
use Rattle.laws.specs.World.{World, Event, Step, Offers, rules_of, guesses, guessed_of, listed}
use Rattle.laws.specs.Runs.{Call, change, nothing}
use Rattle.laws.specs.declared.listing.Listing.{Listing}
use Rattle.laws.proofs.ReadingParts.{Stretch, page_stretch, stretch_none, stretch_join, stretch_all}
use Rattle.laws.proofs.Readings.{later, run_join, calls_join, chained_join, pages_join}
use Rattle.planner.specs.Complete.{Added, Read, ByLists, Complete}
use Rattle.planner.specs.Tries.{Appended}

-- ---- sets behind the places filled

-- lists that are alike from place n on are so from a later place on
drop_later : (n k : ℕ) (xs ys : List ℕ) → drop n xs ≡ drop n ys → drop (n + k) xs ≡ drop (n + k) ys
drop_later n k xs ys same = sym (drop-drop k n xs) ∙ ap (drop k) same ∙ drop-drop k n ys

module _ (before : List ℕ) (count : ℕ) where
  pub added_none : Added before count [] before count
  added_none = record {
    filled = omega arith;
    same_length = refl;
    front = sym (append-nil (take count before));
    stays = refl;
  }

  pub added_more : (sets after : List ℕ) (r x : ℕ) → r < length after → Added before count sets after r → Added before count (sets ++ x ∷ []) (set after r x) (r + 1)
  added_more sets after r x room at = record {
    filled = omega (arith, length_push sets x);
    same_length = length-set after r x ∙ at.same_length;
    front = take_more_set after r x room ∙ ap (λ front. front ++ x ∷ []) at.front ∙ append_assoc (take count before) sets (x ∷ []);
    stays = drop-set-lt (r + 1) after r x (omega arith) ∙ drop_later r 1 after before at.stays;
  }

-- sets pasted behind the places filled
pub added_pasted : (before : List ℕ) (count k : ℕ) (sets : List ℕ) → count + k ≤ length before → length sets ≡ k → Added before count sets (put_mid count (count + k - count) before sets) (count + k)
added_pasted before count k sets room long = record {
  filled = omega arith;
  same_length = same_len_mid count (count + k - count) before sets (let mid = length-take-le (count + k - count) (drop count before) (omega (arith, length-drop count before)) in omega arith);
  front = take-put_mid count (count + k - count) before sets (count + k) (omega arith) (omega arith);
  stays = drop-put_mid count (count + k - count) before sets (count + k) (omega arith) (omega arith) (omega arith);
}

-- place by place
pub appended_from_added : (before : List ℕ) (count : ℕ) (sets after : List ℕ) (r : ℕ) → count + length sets ≤ length before → Added before count sets after r → Appended before count sets (length sets) after r
appended_from_added before count sets after r room at = record {
  filled = at.filled;
  same_length = at.same_length;
  old = λ i lt. front i (omega (arith, at.filled)) ∙ get_or-append (take count before) sets 0 i (omega (arith, long)) ∙ get_or-take count before i 0 lt;
  new = λ j lt. front (count + j) (omega (arith, at.filled)) ∙ ap (λ n. get_or (take count before ++ sets) (n + j) 0) (sym long) ∙ get_or-append-add (take count before) sets j 0;
  stays = subst (λ n. drop n after ≡ drop n before) at.filled at.stays;
}
  where
    long : length (take count before) ≡ count
    long = length-take-le count before (omega arith)

    front : (i : ℕ) → i < r → get_or after i 0 ≡ get_or (take count before ++ sets) i 0
    front i lt = sym (get_or-take r after i 0 lt) ∙ ap (λ xs. get_or xs i 0) at.front

-- the front places that are exactly the menus, told of the whole buffer
pub complete_from : (m : Meaning) (w : World) (before after : List ℕ) (count : ℕ) → count ≤ length before → length after ≡ length before → drop count after ≡ drop count before
    → ExactlyMenus m (rules_of w) (take count after) → Complete m w before after count
complete_from m w before after count fits same stays menus = record {
  each = λ i lt. subst (Offers m w) (get_or-take count after i 0 lt) (menus.each i (omega (arith, long)));
  every = λ s offered. let at = menus.every s offered in let lt : at.0 < count = omega (arith, long, at.1) in (at.0, lt, sym (get_or-take count after at.0 0 lt) ∙ at.2);
  ordered = λ i j lt end. subst₂ (Before (guessed_of w)) (get_or-take count after i 0 (omega arith)) (get_or-take count after j 0 end) (menus.ordered i j lt (omega (arith, long)));
  fits = fits;
  same_length = same;
  stays = stays;
}
  where
    long : length (take count after) ≡ count
    long = length-take-le count after (omega arith)

-- ---- the lists made

module _ (m : Meaning) (w : World) where
  pub read_none : (from : ℕ) → Read m w from from []
  read_none from = record { lists = []; run = refl; unchanged = λ i e here. absurd here; parts = []; chained = refl; pages = refl }

  -- one list on a page with a place
  pub read_page : (from : ℕ) (before after : List ℕ) (answer : Listing) → 1 ≤ length before → Step m w (listed from before after (Ok answer)) w → Read m w from answer.next (take answer.count after)
  read_page from before after answer room step = record {
    lists = list ∷ [];
    run = (w, step, refl);
    unchanged = unchanged;
    parts = record { call = 0; from = from; before = before; after = after; answer = answer } ∷ [];
    chained = (omega arith, refl, room, refl, refl);
    pages = sym (append-nil (take answer.count after));
  }
    where
      list : Event
      list = listed from before after (Ok answer)

      unchanged : (i : ℕ) (e : Event) → Call (list ∷ []) i e → change e ≡ nothing
      unchanged zero e here = sym (ap change here)
      unchanged (suc i) e here = absurd here

  -- readings that meet
  pub read_join : (from mid end : ℕ) (sets more : List ℕ) → Read m w from mid sets → Read m w mid end more → Read m w from end (sets ++ more)
  read_join from mid end sets more a b = record {
    lists = a.lists ++ b.lists;
    run = run_join m a.lists b.lists w w w a.run b.run;
    unchanged = calls_join (λ e. change e ≡ nothing) a.lists b.lists a.unchanged b.unchanged;
    parts = a.parts ++ map (later (length a.lists)) b.parts;
    chained = chained_join a.lists b.lists a.parts b.parts 0 from mid end (omega arith) a.chained b.chained;
    pages = let e = a.pages in let f = b.pages in let g = pages_join (length a.lists) a.parts b.parts in cc;
  }

-- ---- the buffer on the way

-- The first `count` places are the menus whose guesses lie below `from`, filled by the lists made; the other places stay.
pub record ReadTo (m : Meaning) (w : World) (before after : List ℕ) (count from : ℕ) : Type 0 where
  pub reading : Read m w 0 from (take count after)
  pub stretch : Stretch m (rules_of w) 0 from (take count after)
  pub few : count ≤ from
  pub same_length : length after ≡ length before
  pub stays : drop count after ≡ drop count before

module _ (m : Meaning) (w : World) (lines : IsLines (guessed_of w)) (before : List ℕ) where
  pub to_none : ReadTo m w before before 0 0
  to_none = record { reading = read_none m w 0; stretch = stretch_none m (rules_of w) 0; few = omega arith; same_length = refl; stays = refl }

  -- one page more was read and added
  pub to_more : (after : List ℕ) (count from : ℕ) (blank page : List ℕ) (answer : Listing) (more : List ℕ) (r : ℕ) → 1 ≤ length blank → Step m w (listed from blank page (Ok answer)) w
      → Added after count (take answer.count page) more r → ReadTo m w before after count from → ReadTo m w before more r answer.next
  to_more after count from blank page answer more r room step added at =
      let found = take answer.count page in
      let listed = step.1.1 in
      let long : length (take answer.count page) ≡ answer.count = length-take-le answer.count page (omega arith) in record {
        reading = rw added.front (read_join m w 0 from answer.next (take count after) found at.reading (read_page m w from blank page answer room step));
        stretch = rw added.front (stretch_join m (rules_of w) lines 0 from answer.next (take count after) found at.stretch (page_stretch m w from blank page answer.count answer.next listed));
        few = omega arith;
        same_length = added.same_length ∙ at.same_length;
        stays = added.stays ∙ rw added.filled (drop_later count (length found) after before at.stays);
      }

  -- read to the end
  pub to_all : (after : List ℕ) (count from : ℕ) → from ≡ guesses w → ReadTo m w before after count from → ByLists m w after count
  to_all after count from end at = record {
    exactly_menus = stretch_all m (rules_of w) lines (take count after) (rw end at at.stretch);
    reading = rw end at at.reading;
  }
