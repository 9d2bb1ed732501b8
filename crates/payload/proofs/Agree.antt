-- What is read from two sources that are the same from a place on: the same, and it ends within them. It is shown field by field,
-- in the order in which they are read. Assumes nothing.
use mathlib.Core.Path.{◌≡◌, refl, sym}
use mathlib.Core.Bool.{Bool, true, false, cond}
use Prim.Native.Nat.{ℕ, ◌+◌, ◌≤◌}
use native.Mathlib.Omega.{arith}
use lib.Dec.{leb}
use lib.ListN.{length, drop}
use borrow.Author.Tests.{leb-true}
use Rattle.wire.proofs.Cases.{clash}
use Rattle.wire.specs.Le.{le_at}
use Rattle.wire.specs.declared.Part.{Part}
use Rattle.payload.specs.Places.{Source, Place, Read, whole, refused, number_at, part_at, must, then}
use Rattle.payload.proofs.Sources.{Same}

-- the same value and the same place, from a place on and within n bytes; or the same refusal
pub data Agree {A : Type 0} (n from : ℕ) : Read A → Read A → Type 0 where
  both : {v : A} {to : ℕ} → from ≤ to → to ≤ n → Agree n from (whole v to) (whole v to)
  neither : {r : ℕ} → Agree n from (refused r) (refused r)

module _ {A : Type 0} {n from : ℕ} where
  pub agree-is : {x y : Read A} → Agree n from x y → x ≡ y
  agree-is (both h g) = refl
  agree-is neither = refl

  pub agree-to : {x y : Read A} {v : A} {to : ℕ} → Agree n from x y → x ≡ whole v to → (from ≤ to) × (to ≤ n)
  agree-to {to = to} (both {to = end} h g) e = let q : end ≡ to = cc in (omega arith, omega arith)
  agree-to neither e = clash (cc)

  pub agree-from : {x y : Read A} (before : ℕ) → before ≤ from → Agree n from x y → Agree n before x y
  agree-from before l (both {to = to} h g) = both {to = to} (omega arith) g
  agree-from before l neither = neither

  pub cond-agree : (b : Bool) (x y u v : Read A) → Agree n from x u → Agree n from y v → Agree n from (cond b x y) (cond b u v)
  cond-agree true x y u v f g = f
  cond-agree false x y u v f g = g

  pub must-agree : (b : Bool) (r : ℕ) (x u : Read A) → Agree n from x u → Agree n from (must b r x) (must b r u)
  unfolding must
  must-agree b r x u f = cond-agree b x (refused r) u (refused r) f neither

module _ {A : Type 0} {from : ℕ} where
  tested : (t : Bool) (n r : ℕ) (x u : Read A) → (t ≡ true → Agree n from x u) → Agree n from (cond t x (refused r)) (cond t u (refused r))
  tested true n r x u f = f refl
  tested false n r x u f = neither

  pub number-agree : {a b : Source} (k at : ℕ) (go to : ℕ → Place → Read A) → Same a b at
      → ((v : ℕ) → at + k ≤ length a.bytes → Agree (length a.bytes) from (go v (at + k)) (to v (at + k)))
      → Agree (length a.bytes) from (number_at k a at go) (number_at k b at to)
  unfolding number_at
  number-agree {a} {b} k at go to s f =
      rw (sym s.size, sym s.stops, sym (s.rest at (omega arith)))
      (tested (leb (at + k) (length a.bytes)) (length a.bytes) a.stop _ _ (λ e. f (le_at k (drop at a.bytes)) (leb-true (at + k) (length a.bytes) e)))

  pub part-agree : {a b : Source} (k at : ℕ) (go to : Part → Place → Read A) → Same a b at
      → (at + k ≤ length a.bytes → Agree (length a.bytes) from (go (record { start = at; len = k }) (at + k)) (to (record { start = at; len = k }) (at + k)))
      → Agree (length a.bytes) from (part_at k a at go) (part_at k b at to)
  unfolding part_at
  part-agree {a} {b} k at go to s f =
      rw (sym s.size, sym s.stops)
      (tested (leb (at + k) (length a.bytes)) (length a.bytes) a.stop _ _ (λ e. f (leb-true (at + k) (length a.bytes) e)))

pub then-agree : {A B : Type 0} {n from later : ℕ} {x y : Read A} (go to : A → Place → Read B) → Agree n from x y
    → ((v : A) (at : ℕ) → from ≤ at → at ≤ n → Agree n later (go v at) (to v at)) → Agree n later (then x go) (then y to)
unfolding then
then-agree go to (both {v = v} {to = at} h g) f = f v at h g
then-agree go to neither f = neither
