-- What holds of whatever is read: it is shown field by field, in the order in which they are read. Assumes nothing.
use mathlib.Core.Path.{◌≡◌, refl}
use mathlib.Core.Bool.{Bool, true, false, cond}
use Prim.Native.Nat.{ℕ, ◌+◌, ◌≤◌}
use lib.Dec.{leb}
use lib.ListN.{length, drop}
use borrow.Author.Tests.{leb-true}
use Rattle.wire.specs.Le.{le_at}
use Rattle.wire.specs.declared.Part.{Part}
use Rattle.payload.specs.Places.{Source, Place, Read, whole, refused, number_at, part_at, must, then}

-- Q holds of what is read and of the place after it; a refusal reads nothing
pub data Each {A : Type 0} (Q : A → Place → Type 0) : Read A → Type 0 where
  got : {a : A} {to : ℕ} → Q a to → Each Q (whole a to)
  none : {n : ℕ} → Each Q (refused n)

module _ {A : Type 0} (Q : A → Place → Type 0) where
  held : {a : A} {to : ℕ} → Each Q (whole a to) → Q a to
  held (got h) = h

  pub each_of : {x : Read A} {a : A} {to : ℕ} → Each Q x → x ≡ whole a to → Q a to
  each_of h e = held (rw e at h)

  pub cond-each : (b : Bool) (x y : Read A) → (b ≡ true → Each Q x) → (b ≡ false → Each Q y) → Each Q (cond b x y)
  cond-each true x y f g = f refl
  cond-each false x y f g = g refl

  pub must-each : (b : Bool) (n : ℕ) (x : Read A) → (b ≡ true → Each Q x) → Each Q (must b n x)
  unfolding must
  must-each b n x f = cond-each b x (refused n) f (λ e. none)

  -- a number and a part that are read lie in the packet
  pub number-each : (k : ℕ) (src : Source) (at : ℕ) (go : ℕ → Place → Read A) → (at + k ≤ length src.bytes → Each Q (go (le_at k (drop at src.bytes)) (at + k)))
      → Each Q (number_at k src at go)
  unfolding number_at
  number-each k src at go f = cond-each (leb (at + k) (length src.bytes)) _ _ (λ e. f (leb-true (at + k) (length src.bytes) e)) (λ e. none)

  pub part-each : (n : ℕ) (src : Source) (at : ℕ) (go : Part → Place → Read A) → (at + n ≤ length src.bytes → Each Q (go (record { start = at; len = n }) (at + n)))
      → Each Q (part_at n src at go)
  unfolding part_at
  part-each n src at go f = cond-each (leb (at + n) (length src.bytes)) _ _ (λ e. f (leb-true (at + n) (length src.bytes) e)) (λ e. none)

pub then-each : {A B : Type 0} (P : A → Place → Type 0) (Q : B → Place → Type 0) (x : Read A) (go : A → Place → Read B)
    → Each P x → ((a : A) (to : ℕ) → P a to → Each Q (go a to)) → Each Q (then x go)
unfolding then
then-each P Q (whole a to) go h f = f a to (held P h)
then-each P Q (refused n) go h f = none

-- what follows from it
pub each_more : {A : Type 0} (P Q : A → Place → Type 0) (x : Read A) → ((a : A) (to : ℕ) → P a to → Q a to) → Each P x → Each Q x
each_more P Q (whole a to) f h = got (f a to (held P h))
each_more P Q (refused n) f h = none
