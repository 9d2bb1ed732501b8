-- What stands at a place of a source, as fields, and how the definitions of reading go on from it. Assumes nothing.
use mathlib.Core.Path.{◌≡◌, refl, sym, ap, ◌∙◌}
use mathlib.Core.Bool.{Bool, true, false, cond}
use mathlib.Core.List.{List, ◌∷◌, ◌++◌}
use Prim.Native.Nat.{ℕ, ◌+◌, ◌^◌, ◌≤◌, ◌<◌}
use native.Mathlib.Omega.{arith}
use lib.ListN.{length, take, drop, length-append, length-drop}
use lib.Seq.{drop-drop, drop_at, take_at}
use borrow.Author.Tests.{le-leb}
use Rattle.wire.specs.Le.{le}
use Rattle.wire.specs.Fields.{Field, word, raw, flat}
use Rattle.wire.specs.Part.{part_bytes}
use Rattle.wire.specs.declared.Part.{Part}
use Rattle.wire.proofs.Le.{length-le, le-exact}
use Rattle.payload.specs.Places.{Source, Place, Read, whole, number_at, part_at, must, then}

-- the fields fs are all that stands in a source from a place on
pub record At (src : Source) (at : Place) (fs : List Field) : Type 0 where
  pub inside : at ≤ length src.bytes
  pub is : drop at src.bytes ≡ flat fs

-- ---- past a field

past : (p : List ℕ) (at : ℕ) (x s : List ℕ) → at ≤ length p → drop at p ≡ x ++ s → (at + length x ≤ length p) × (drop (at + length x) p ≡ s)
past p at x s h e = (
  omega (arith, simp length-append at (sym (length-drop at p) ∙ ap length e)),
  sym (drop-drop (length x) at p) ∙ ap (λ (l : List ℕ). drop (length x) l) e ∙ drop_at x s (length x) refl,
)

module _ {src : Source} {at : Place} {fs : List Field} where
  pub past_word : {k n : ℕ} → At src at (word k n ∷ fs) → At src (at + k) fs
  unfolding flat
  past_word {k} {n} a =
      let h = rw (length-le k n) at (past src.bytes at (le k n) (flat fs) a.inside a.is) in
      record { inside = h.0; is = h.1 }

  pub past-raw : {x : List ℕ} (n : ℕ) → length x ≡ n → At src at (raw x ∷ fs) → At src (at + n) fs
  unfolding flat
  past-raw {x} n e a =
      let h = rw e at (past src.bytes at x (flat fs) a.inside a.is) in
      record { inside = h.0; is = h.1 }

  -- the bytes of a part
  pub part-is : {x : List ℕ} (n : ℕ) → length x ≡ n → At src at (raw x ∷ fs) → part_bytes src.bytes (record { start = at; len = n }) ≡ x
  unfolding flat part_bytes
  part-is {x} n e a = ap (λ (l : List ℕ). take n l) a.is ∙ take_at x (flat fs) n e

  -- ---- what is read there, and where it goes on

  pub number-at : {A : Type 0} {k n : ℕ} (go : ℕ → Place → Read A) → n < 256 ^ k → At src at (word k n ∷ fs) → number_at k src at go ≡ go n (at + k)
  unfolding number_at flat
  number-at {k = k} {n = n} go h a = rw (le-leb (at + k) (length src.bytes) (past_word a).inside, a.is, le-exact k n (flat fs) h)

  pub part-at : {A : Type 0} {x : List ℕ} (n : ℕ) (go : Part → Place → Read A) → length x ≡ n → At src at (raw x ∷ fs)
      → part_at n src at go ≡ go (record { start = at; len = n }) (at + n)
  unfolding part_at
  part-at n go e a = rw (le-leb (at + n) (length src.bytes) (past-raw n e a).inside)

-- ---- tests

module _ {A : Type 0} {b : Bool} where
  pub must-at : (n : ℕ) (rest : Read A) → b ≡ true → must b n rest ≡ rest
  unfolding must
  must-at n rest e = rw e

  pub cond_yes : (x y : Read A) → b ≡ true → cond b x y ≡ x
  cond_yes x y e = rw e

  pub cond_no : (x y : Read A) → b ≡ false → cond b x y ≡ y
  cond_no x y e = rw e

pub then_at : {A B : Type 0} {o : Read A} {a : A} {at : Place} (go : A → Place → Read B) → o ≡ whole a at → then o go ≡ go a at
unfolding then
then_at go e = rw e
