-- The place of a unit in a list, where no two entries are the same, and a rule of a list proved at all of its entries by one test.
-- Assumes nothing.
use mathlib.Core.Path.{◌≡◌, refl, sym, ap, ◌∙◌}
use mathlib.Core.Bool.{Bool, true, false, not, cond, ◌&&◌, ◌||◌}
use mathlib.Core.List.{List, [], ◌∷◌}
use Prim.Native.Nat.{ℕ, zero, suc, ◌+◌, ◌<◌, ◌≤◌}
use native.Mathlib.Omega.{arith}
use native.Mathlib.Nat.{not-suc-le-zero}
use borrow.Author.Tests.{eq-eqb, eqb-true}
use lib.Dec.{eqb}
use lib.ListN.{length, get_or}
use Rattle.wire.proofs.Cases.{by-test, clash}
use Rattle.payload.proofs.CodeReads.{and-true}
use Rattle.windows1252.specs.Table.{place_of}

-- ---- tests over a list

-- a test passes at each entry and its place, counted from i
abbrev pub every : (ℕ → ℕ → Bool) → ℕ → List ℕ → Bool
every f i [] = true
every f i (x ∷ xs) = f i x && every f (suc i) xs

every-from : (f : ℕ → ℕ → Bool) (i : ℕ) (l : List ℕ) → every f i l ≡ true → (k : ℕ) → k < length l → f (i + k) (get_or l k 0) ≡ true
every-from f i [] e k h = absurd (not-suc-le-zero h)
every-from f i (x ∷ l) e zero h = let q : i + 0 ≡ i = omega arith in rw q (and-true (f i x) (every f (suc i) l) e).0
every-from f i (x ∷ l) e (suc k) h = let q : i + suc k ≡ suc i + k = omega arith in rw q (every-from f (suc i) l (and-true (f i x) (every f (suc i) l) e).1 k (omega arith))

pub every-at : (f : ℕ → ℕ → Bool) (l : List ℕ) → every f 0 l ≡ true → (k : ℕ) → k < length l → f k (get_or l k 0) ≡ true
every-at f l e k h = let q : 0 + k ≡ k = omega arith in rw q at (every-from f 0 l e k h)

-- a number stands in a list
abbrev pub member : ℕ → List ℕ → Bool
member x [] = false
member x (y ∷ ys) = eqb x y || member x ys

-- no two entries are the same
abbrev pub distinct : List ℕ → Bool
distinct [] = true
distinct (x ∷ xs) = not (member x xs) && distinct xs

-- ---- entries of a list without two that are the same

neither : (a b : Bool) → not (a || b) ≡ true → (a ≡ false) × (not b ≡ true)
neither true b e = clash (cc)
neither false b e = (refl, e)

-- what does not stand in a list is none of its entries
not_entry : (x : ℕ) (l : List ℕ) → not (member x l) ≡ true → (k : ℕ) → k < length l → eqb x (get_or l k 0) ≡ false
not_entry x [] e k h = absurd (not-suc-le-zero h)
not_entry x (y ∷ l) e zero h = (neither (eqb x y) (member x l) e).0
not_entry x (y ∷ l) e (suc k) h = not_entry x l (neither (eqb x y) (member x l) e).1 k (omega arith)

-- an entry stands at its own place
pub place-of-entry : (l : List ℕ) → distinct l ≡ true → (k : ℕ) → k < length l → place_of (get_or l k 0) l ≡ k
unfolding place_of
place-of-entry [] d k h = absurd (not-suc-le-zero h)
place-of-entry (x ∷ l) d zero h = rw (eq-eqb x x refl)
place-of-entry (x ∷ l) d (suc k) h =
    rw (not_entry x l (and-true (not (member x l)) (distinct l) d).0 k (omega arith)) (ap suc (place-of-entry l (and-true (not (member x l)) (distinct l) d).1 k (omega arith)))

-- so two places of one entry are one
pub one_place : (l : List ℕ) → distinct l ≡ true → (i j : ℕ) → i < length l → j < length l → get_or l i 0 ≡ get_or l j 0 → i ≡ j
one_place l d i j h g e = sym (place-of-entry l d i h) ∙ ap (λ (u : ℕ). place_of u l) e ∙ place-of-entry l d j g

-- ---- any list

-- at a place that was found stands the unit
found-by : (b : Bool) (u x : ℕ) (l : List ℕ) → eqb x u ≡ b → (place_of u l < length l → get_or l (place_of u l) 0 ≡ u)
    → cond b 0 (suc (place_of u l)) < suc (length l) → get_or (x ∷ l) (cond b 0 (suc (place_of u l))) 0 ≡ u
found-by true u x l e f h = eqb-true x u e
found-by false u x l e f h = f (omega arith)

pub found : (u : ℕ) (l : List ℕ) → place_of u l < length l → get_or l (place_of u l) 0 ≡ u
unfolding place_of
found u [] h = absurd (not-suc-le-zero h)
found u (x ∷ l) h = found-by (eqb x u) u x l refl (found u l) h

-- a unit that is no entry
pub no_place : (u : ℕ) (l : List ℕ) → ((k : ℕ) → k < length l → eqb (get_or l k 0) u ≡ false) → place_of u l ≡ length l
unfolding place_of
no_place u [] f = refl
no_place u (x ∷ l) f = rw (f 0 (omega arith)) (ap suc (no_place u l (λ k h. f (suc k) (omega arith))))

pub place-most : (u : ℕ) (l : List ℕ) → place_of u l ≤ length l
unfolding place_of
place-most u [] = omega arith
place-most u (x ∷ l) = by-test (eqb x u) (λ t. rw t (omega arith)) (λ t. rw t (omega (arith, place-most u l)))
