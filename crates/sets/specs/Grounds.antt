-- Refusals, their numbers, and what it means that a call is refused on the first of its grounds that holds.
use Rattle.std.specs.Prelude.{◌≡◌, ℕ, ◌⊎◌, List, [], ◌∷◌, Ok, Err, Result}
use Rattle.sets.specs.declared.refusal.Refusal.{Refusal}
use Rattle.sets.specs.declared.refusal.Refusal.TheVariants.{OutOfRange, Filled, BadWords, NumbersSpent, Empty, Held, Named, TooManyUnless, FactsNameEmpty, FromTooHigh, NoMenu, HoldsFull, NotOut, BufferTooShort, AtomsTooHigh, FactsFull, HasSense}

-- the number by which a refusal is known outside
abbrev pub number_of : Refusal → ℕ
number_of OutOfRange = 1
number_of Filled = 2
number_of BadWords = 3
number_of NumbersSpent = 4
number_of Empty = 5
number_of Held = 6
number_of Named = 7
number_of TooManyUnless = 8
number_of FactsNameEmpty = 9
number_of FromTooHigh = 10
number_of NoMenu = 11
number_of HoldsFull = 12
number_of NotOut = 13
number_of BufferTooShort = 14
number_of AtomsTooHigh = 18
number_of FactsFull = 19
number_of HasSense = 20

-- one ground of a call: the refusal that it gives, and when it holds
pub record Ground : Type 1 where
  pub gives : Refusal
  pub when : Type 0

-- none of the grounds holds
abbrev pub NoGround : List Ground → Type 0
NoGround [] = Unit {0}
NoGround (g ∷ gs) = (g.when → ⊥) × NoGround gs

-- e is the refusal of the first ground that holds
abbrev pub FirstGround : List Ground → Refusal → Type 0
FirstGround [] e = ⊥
FirstGround (g ∷ gs) e = (g.when × (e ≡ g.gives)) ⊎ ((g.when → ⊥) × FirstGround gs e)

-- A call with these grounds answered r. Accepted, none of the grounds holds, and what was promised of the value is true;
-- refused, the refusal is that of the first ground that holds, and all stayed as it was.
abbrev pub Answered : {A : Type 0} → List Ground → (A → Type 0) → Type 0 → Result A Refusal → Type 0
Answered gs accepted stays (Ok x) = NoGround gs × accepted x
Answered gs accepted stays (Err e) = FirstGround gs e × stays
