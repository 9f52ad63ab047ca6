-- Tables as lists of rows: what holds of each row after one was written, and of a table whose rows are all alike.
use Rattle.std.proofs.Common.{◌≡◌, ℕ, zero, suc, ◌<◌, List, [], ◌∷◌, ◌++◌, length, get_or, take, set, replicate, Some, None, refl, arith}
use Rattle.std.specs.List.{AllByRecursion}

-- two optional rows that are one have one row, and none is not some
pub some_same : {X : Type 0} {x y : X} → Some x ≡ Some y → x ≡ y
some_same e = cc

pub no_some : {X : Type 0} {x : X} → None ≡ Some x → ⊥
no_some {X} {x} e = let z : ◌≡◌ {A = ℕ} 0 1 = cc in omega arith

-- what holds of each row and of the one written holds of each row after
pub each_set : {X : Type 0} (P : X → Type 0) (xs : List X) (i : ℕ) (v d : X) → ((j : ℕ) → P (get_or xs j d)) → P v → (j : ℕ) → P (get_or (set xs i v) j d)
each_set P [] i v d each here j = each j
each_set P (x ∷ xs) zero v d each here zero = here
each_set P (x ∷ xs) zero v d each here (suc j) = each (suc j)
each_set P (x ∷ xs) (suc i) v d each here zero = each zero
each_set P (x ∷ xs) (suc i) v d each here (suc j) = each_set P xs i v d (λ k. each (suc k)) here j

-- a table of equal rows has that row at each place, and past its end where that is the default too
pub replicate_each : {X : Type 0} (n : ℕ) (a : X) (j : ℕ) → get_or (replicate n a) j a ≡ a
replicate_each zero a j = refl
replicate_each (suc n) a zero = refl
replicate_each (suc n) a (suc j) = replicate_each n a j

-- what holds of all elements, with one more at the end, or at a place
pub all_push : {X : Type 0} (P : X → Type 0) (xs : List X) (x : X) → AllByRecursion P xs → P x → AllByRecursion P (xs ++ x ∷ [])
all_push P [] x all here = (here, tt)
all_push P (y ∷ ys) x all here = (all.0, all_push P ys x all.1 here)

pub all_pushed : {X : Type 0} (P : X → Type 0) (xs : List X) (x : X) → AllByRecursion P (xs ++ x ∷ []) → AllByRecursion P xs × P x
all_pushed P [] x all = (tt, all.0)
all_pushed P (y ∷ ys) x all = let rest = all_pushed P ys x all.1 in ((all.0, rest.0), rest.1)

pub all_at : {X : Type 0} (P : X → Type 0) (xs : List X) (i : ℕ) (d : X) → AllByRecursion P xs → i < length xs → P (get_or xs i d)
all_at P [] i d all lt = absurd (omega arith)
all_at P (x ∷ xs) zero d all lt = all.0
all_at P (x ∷ xs) (suc i) d all lt = all_at P xs i d all.1 (omega arith)

-- what holds of each row holds of each of the front ones
pub all_front : {X : Type 0} (P : X → Type 0) (n : ℕ) (xs : List X) (d : X) → ((i : ℕ) → P (get_or xs i d)) → AllByRecursion P (take n xs)
all_front P zero xs d each = tt
all_front P (suc n) [] d each = tt
all_front P (suc n) (x ∷ xs) d each = (each zero, all_front P n xs d (λ i. each (suc i)))
