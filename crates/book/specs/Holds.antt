-- The holds that are out: how many, taking one, and giving it back.
use Rattle.std.specs.Prelude.{◌≡◌, ℕ, zero, suc, ◌+◌, ◌<◌, ◌≤◌, Bool, true, cond, List, [], ◌∷◌, is_some, Some, None, Option, Result, ◌==◌}
use Rattle.sets.specs.Grounds.{Ground, Answered}
use Rattle.sets.specs.declared.refusal.Refusal.{Refusal}
use Rattle.sets.specs.declared.refusal.Refusal.TheVariants.{NumbersSpent, Empty, HoldsFull, NotOut}
use Rattle.book.specs.Rows.{AnyVacant}
use Rattle.book.specs.Kept.{last_number}
use Rattle.book.specs.Contents.{Contents, Held}

-- how many holds may be out
abbrev pub most_out : ℕ
most_out = 16

-- how many numbers below n have the property
abbrev pub count_below : (ℕ → Bool) → ℕ → ℕ
count_below p zero = 0
count_below p (suc n) = cond (p n) 1 0 + count_below p n

-- how many holds are out, of the numbers given so far
abbrev pub out_count : Contents → ℕ
out_count c = count_below (λ n. is_some (c.holds n)) c.next_hold

-- the hold of this number is out
abbrev pub IsOut : Contents → ℕ → Type 0
IsOut c number = is_some (c.holds number) ≡ true

-- the holds with this one, or none, at a number, and all others as they were
abbrev pub put : (ℕ → Option Held) → ℕ → Option Held → ℕ → Option Held
put holds number hold n = cond (number == n) hold (holds n)

-- a hold on these lines is out from now on, with the next hold number
abbrev pub with_hold : Contents → ℕ → Contents
with_hold c lines = record {
  lines = c.lines;
  rules = c.rules;
  holds = put c.holds c.next_hold (Some (record { lines = lines }));
  next = c.next;
  next_hold = c.next_hold + 1;
}

-- the hold of this number is out no more
abbrev pub without_hold : Contents → ℕ → Contents
without_hold c number = record {
  lines = c.lines;
  rules = c.rules;
  holds = put c.holds number None;
  next = c.next;
  next_hold = c.next_hold;
}

-- a hold is refused if no number is left, then if a line is empty, then if as many are out as may be
abbrev pub hold_grounds : Contents → ℕ → List Ground
hold_grounds c lines =
    record { gives = NumbersSpent; when = last_number < c.next_hold }
    ∷ record { gives = Empty; when = AnyVacant c.lines lines }
    ∷ record { gives = HoldsFull; when = most_out ≤ out_count c }
    ∷ []

-- taken, the answer is its number
abbrev pub TakeHold : Contents → ℕ → Result ℕ Refusal → Contents → Type 0
TakeHold c lines answer after =
    Answered (hold_grounds c lines) (λ number. (number ≡ c.next_hold) × (after ≡ with_hold c lines)) (after ≡ c) answer

-- given back, it is out no more
abbrev pub GiveBack : Contents → ℕ → Result (Unit {0}) Refusal → Contents → Type 0
GiveBack c number answer after =
    Answered (record { gives = NotOut; when = IsOut c number → ⊥ } ∷ []) (λ _. after ≡ without_hold c number) (after ≡ c) answer
