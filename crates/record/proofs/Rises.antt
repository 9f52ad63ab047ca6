-- Entries that rise, one more at the end.
use Rattle.std.proofs.Common.{◌≡◌, ℕ, ◌+◌, ◌<◌, ◌≤◌, List, [], ◌∷◌, ◌++◌, length, refl, arith}
use Rattle.std.specs.List.{AllByRecursion}
use Rattle.std.proofs.ByRecursion.{All-push, all-has, has_push}
use Rattle.record.specs.declared.entries.Entry.{Entry}
use Rattle.record.specs.Record.{RisingFrom, GivenOut, Good, Fit}

-- the first line that may follow the entries
abbrev pub after : ℕ → List Entry → ℕ
after least [] = least
after least (e ∷ es) = after (e.line + 1) es

pub after_more : (least : ℕ) (es : List Entry) (e : Entry) → after least (es ++ (e ∷ [])) ≡ e.line + 1
after_more least [] e = refl
after_more least (x ∷ es) e = after_more (x.line + 1) es e

pub rising_more : (least : ℕ) (es : List Entry) (e : Entry) → RisingFrom least es → after least es ≤ e.line → e.line < 64 → RisingFrom least (es ++ (e ∷ []))
rising_more least [] e r from below = (from, below, tt)
rising_more least (x ∷ es) e r from below = (r.0, r.1, rising_more (x.line + 1) es e r.2 from below)

pub rising_last : (least : ℕ) (es : List Entry) (e : Entry) → RisingFrom least (es ++ (e ∷ [])) → (after least es ≤ e.line) × (e.line < 64)
rising_last least [] e r = (r.0, r.1)
rising_last least (x ∷ es) e r = rising_last (x.line + 1) es e r.2

pub rising_front : (least : ℕ) (es : List Entry) (e : Entry) (fs : List Entry) → RisingFrom least (es ++ (e ∷ fs)) → RisingFrom least (es ++ (e ∷ []))
rising_front least [] e fs r = (r.0, r.1, tt)
rising_front least (x ∷ es) e fs r = (r.0, r.1, rising_front (x.line + 1) es e fs r.2)

-- rising lines pass at least as many lines as there are entries
pub after_counts : (least : ℕ) (es : List Entry) → RisingFrom least es → least + length es ≤ after least es
after_counts least [] r = omega arith
after_counts least (x ∷ es) r = let from = r.0 in omega (arith, after_counts (x.line + 1) es r.2)

pub after_most : (least : ℕ) (es : List Entry) → least ≤ 64 → RisingFrom least es → after least es ≤ 64
after_most least [] h r = h
after_most least (x ∷ es) h r = let below = r.1 in after_most (x.line + 1) es (omega arith) r.2

all_front : (P : Entry → Type 0) (es : List Entry) (e : Entry) (fs : List Entry) → AllByRecursion P (es ++ (e ∷ fs)) → AllByRecursion P (es ++ (e ∷ []))
all_front P [] e fs h = (h.0, tt)
all_front P (x ∷ es) e fs h = (h.0, all_front P es e fs h.1)

pub good_more : (next : ℕ) (es : List Entry) (e : Entry) → Good next es → Fit next (after 0 es) e → Good next (es ++ (e ∷ []))
good_more next es e g f =
    record { rising = rising_more 0 es e g.rising f.0 f.1; given = All-push (GivenOut next) es e g.given f.2 }

pub good_last : (next : ℕ) (es : List Entry) (e : Entry) → Good next (es ++ (e ∷ [])) → Fit next (after 0 es) e
good_last next es e g =
    let line = rising_last 0 es e g.rising in
    (line.0, line.1, all-has (GivenOut next) (es ++ (e ∷ [])) e g.given (has_push es e))

pub good_front : (next : ℕ) (es : List Entry) (e : Entry) (fs : List Entry) → Good next (es ++ (e ∷ fs)) → Good next (es ++ (e ∷ []))
good_front next es e fs g = record { rising = rising_front 0 es e fs g.rising; given = all_front (GivenOut next) es e fs g.given }
