-- How reading goes on from what a reader answers: a number, a part, or another value that was read, or its refusal.
-- Assumes nothing.
use mathlib.Core.Path.{◌≡◌, refl, ◌∙◌}
use mathlib.Core.Bool.{Bool, true, false, cond, ◌&&◌}
use Prim.Native.Nat.{ℕ, ◌+◌, ◌-◌, ◌*◌, ◌/◌, ◌≤◌, ◌<◌, ◌^◌}
use native.Mathlib.Nat.{lt_of_lt_of_le, pow-le-pow_right}
use native.Mathlib.Omega.{arith}
use lib.Dec.{leb}
use lib.ListN.{length, drop}
use borrow.Author.Tests.{le-leb, lt-leb}
use Rattle.wire.proofs.Cases.{split, clash}
use Rattle.wire.specs.Le.{le_at}
use Rattle.wire.specs.declared.Part.{Part}
use Rattle.std.specs.Prelude.{Result, Ok, Err}
use Rattle.refusals.specs.declared.Refusal.{Refusal}
use Rattle.refusals.specs.Refused.{number, numbered}
use Rattle.payload.specs.declared.NumberAt.{NumberAt}
use Rattle.payload.specs.declared.PartAt.{PartAt}
use Rattle.payload.specs.Places.{Source, Place, Read, whole, refused, number_at, part_at, must, then}
use Rattle.payload.specs.Answers.{number_read, part_read, Below}

pub and-true : (a b : Bool) → (a && b) ≡ true → (a ≡ true) × (b ≡ true)
and-true true b e = (refl, e)
and-true false b e = clash (cc)

-- ---- how reading goes on

module _ {A B : Type 0} (go : A → Place → Read B) where
  pub then-got : {x : Read A} {a : A} {to : ℕ} → x ≡ whole a to → then x go ≡ go a to
  unfolding then
  then-got e = rw e

  pub then-not : {x : Read A} {n : ℕ} → x ≡ refused n → then x go ≡ refused n
  unfolding then
  then-not e = rw e

-- going on in two ways that agree on what was read
pub then_same : {A B : Type 0} (x : Read A) (f g : A → Place → Read B) → ((a : A) (to : ℕ) → x ≡ whole a to → f a to ≡ g a to) → then x f ≡ then x g
unfolding then
then_same (whole a to) f g e = e a to refl
then_same (refused n) f g e = refl

module _ {A : Type 0} where
  -- a test that must hold
  pub must-hold : {b : Bool} (n : ℕ) (x : Read A) → b ≡ true → must b n x ≡ x
  unfolding must
  must-hold n x e = rw e

  pub must-not : {b : Bool} (n : ℕ) (x : Read A) → b ≡ false → must b n x ≡ refused n
  unfolding must
  must-not n x e = rw e

  -- a test that decides between two
  pub if-so : {b : Bool} (x y : Read A) → b ≡ true → cond b x y ≡ x
  if-so x y e = rw e

  pub if-not : {b : Bool} (x y : Read A) → b ≡ false → cond b x y ≡ y
  if-not x y e = rw e

-- a number or a part that was read, from which to go on
module _ {A B : Type 0} (go : A → Place → Read B) where
  cond-then : (b : Bool) (n : ℕ) (a : A) (to : ℕ) → cond b (go a to) (refused n) ≡ then (cond b (whole a to) (refused n)) go
  unfolding then
  cond-then true n a to = refl
  cond-then false n a to = refl

module _ {A : Type 0} (k : ℕ) (src : Source) (at : ℕ) where
  number-then : (go : ℕ → Place → Read A) → number_at k src at go ≡ then (number_at k src at whole) go
  unfolding number_at
  number-then go = cond-then go (leb (at + k) (length src.bytes)) src.stop _ _

  part_then : (go : Part → Place → Read A) → part_at k src at go ≡ then (part_at k src at whole) go
  unfolding part_at
  part_then go = cond-then go (leb (at + k) (length src.bytes)) src.stop _ _

-- ---- the leaves

-- k headers stand after e bytes where they are not more than an eighth of what is left
pub eighths : (e k len : ℕ) → e ≤ len → leb k ((len - e) / 8) ≡ leb (e + 8 * k) len
eighths e k len h =
    split (e + 8 * k) len
    (λ l. let q : k ≤ (len - e) / 8 = omega arith in rw (le-leb k ((len - e) / 8) q, le-leb (e + 8 * k) len l))
    (λ l. let q : (len - e) / 8 < k = omega arith in rw (lt-leb k ((len - e) / 8) q, lt-leb (e + 8 * k) len l))

pub number-stands : (k : ℕ) (src : Source) (at : ℕ) {n : ℕ} → leb (at + k) (length src.bytes) ≡ true → n ≡ le_at k (drop at src.bytes)
    → Ok (record { value = n; next = at + k }) ≡ number_read (number_at k src at whole)
unfolding number_at
number-stands k src at h e = rw (h, e)

pub number_cut : (k : ℕ) (src : Source) (at : ℕ) → leb (at + k) (length src.bytes) ≡ false → Err src.stop ≡ number_read (number_at k src at whole)
unfolding number_at
number_cut k src at h = rw h

pub part-stands : (n : ℕ) (src : Source) (at : ℕ) → leb (at + n) (length src.bytes) ≡ true
    → Ok (record { part = record { start = at; len = n }; next = at + n }) ≡ part_read (part_at n src at whole)
unfolding part_at
part-stands n src at h = rw h

pub part_cut : (n : ℕ) (src : Source) (at : ℕ) → leb (at + n) (length src.bytes) ≡ false → Err src.stop ≡ part_read (part_at n src at whole)
unfolding part_at
part_cut n src at h = rw h

-- a number that was read is as small as its bytes
pub below : (k : ℕ) {r : Result NumberAt Refusal} {n : NumberAt} → Below k r → r ≡ Ok n → n.value < 256 ^ k
below k h e = rw e at h

pub below_more : (j k : ℕ) → j ≤ k → (r : Result NumberAt Refusal) → Below j r → Below k r
below_more j k l (Ok n) h = lt_of_lt_of_le h (pow-le-pow_right (omega arith) l)
below_more j k l (Err r) h = tt

-- ---- what answers tell

pub number_is : (x : Read ℕ) {r : Result NumberAt Refusal} {n : NumberAt} → numbered r ≡ number_read x → r ≡ Ok n → x ≡ whole n.value n.next
number_is x {n = n} e f = go x (rw f at e)
  where
    go : (x : Read ℕ) → Ok n ≡ number_read x → x ≡ whole n.value n.next
    go (whole v to) e = let q : n ≡ record { value = v; next = to } = cc in rw q
    go (refused m) e = clash (cc)

pub number-is-not : (x : Read ℕ) {r : Result NumberAt Refusal} {m : Refusal} → numbered r ≡ number_read x → r ≡ Err m → x ≡ refused (number m)
number-is-not x {m = m} e f = go x (rw f at e)
  where
    go : (x : Read ℕ) → Err (number m) ≡ number_read x → x ≡ refused (number m)
    go (whole v to) e = clash (cc)
    go (refused n) e = cc

pub part-is : (x : Read Part) {r : Result PartAt Refusal} {n : PartAt} → numbered r ≡ part_read x → r ≡ Ok n → x ≡ whole n.part n.next
part-is x {n = n} e f = go x (rw f at e)
  where
    go : (x : Read Part) → Ok n ≡ part_read x → x ≡ whole n.part n.next
    go (whole v to) e = let q : n ≡ record { part = v; next = to } = cc in rw q
    go (refused m) e = clash (cc)

pub part-is-not : (x : Read Part) {r : Result PartAt Refusal} {m : Refusal} → numbered r ≡ part_read x → r ≡ Err m → x ≡ refused (number m)
part-is-not x {m = m} e f = go x (rw f at e)
  where
    go : (x : Read Part) → Err (number m) ≡ part_read x → x ≡ refused (number m)
    go (whole v to) e = clash (cc)
    go (refused n) e = cc

-- ---- a number and a part that were read, or not

module _ {A : Type 0} where
  pub number-got : (k : ℕ) (src : Source) (at : ℕ) (go : ℕ → Place → Read A) {r : Result NumberAt Refusal} {n : NumberAt}
      → numbered r ≡ number_read (number_at k src at whole) → r ≡ Ok n → number_at k src at go ≡ go n.value n.next
  number-got k src at go e f = number-then k src at go ∙ then-got go (number_is (number_at k src at whole) e f)

  pub number-not : (k : ℕ) (src : Source) (at : ℕ) (go : ℕ → Place → Read A) {r : Result NumberAt Refusal} {m : Refusal}
      → numbered r ≡ number_read (number_at k src at whole) → r ≡ Err m → number_at k src at go ≡ refused (number m)
  number-not k src at go e f = number-then k src at go ∙ then-not go (number-is-not (number_at k src at whole) e f)

  pub part-got : (n : ℕ) (src : Source) (at : ℕ) (go : Part → Place → Read A) {r : Result PartAt Refusal} {v : PartAt}
      → numbered r ≡ part_read (part_at n src at whole) → r ≡ Ok v → part_at n src at go ≡ go v.part v.next
  part-got n src at go e f = part_then n src at go ∙ then-got go (part-is (part_at n src at whole) e f)

  pub part-not : (n : ℕ) (src : Source) (at : ℕ) (go : Part → Place → Read A) {r : Result PartAt Refusal} {m : Refusal}
      → numbered r ≡ part_read (part_at n src at whole) → r ≡ Err m → part_at n src at go ≡ refused (number m)
  part-not n src at go e f = part_then n src at go ∙ then-not go (part-is-not (part_at n src at whole) e f)
