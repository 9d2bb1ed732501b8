-- How exports end: one law for each way, over the outcome, the lent slots and the number. Assumes nothing.
use Prim.Native.Nat.{ℕ, ◌^◌, ◌<◌, ◌≤◌}
use mathlib.Core.Path.{◌≡◌, refl, sym, ap, ◌∙◌}
use mathlib.Core.List.{List, []}
use lib.ListN.{length}
use lib.IntN.{ℤ}
use lib.Signed.{mag}
use native.Mathlib.Omega.{arith}
use mir.Syntax.{w64}
use mir.Val.{to_z, of_z}
use mir.Facts.{to_z-of_z, to_z_pos}
use borrow.Author.Tests.{lt-ltb, le-ltb}
use Rattle.refusals.specs.Numbers.{buffer_too_short}
use Rattle.wire.specs.Over.{overwrite}
use Rattle.station.specs.Answer.{Outcome, answers, refuses, number_of, lent, filled, answer_of, slots_of}

-- an export's two promises: its answer r and what it left in the slots
abbrev pub Ended : Outcome → List ℕ → List ℕ → ℤ → Type 0
Ended o out left r = (r ≡ answer_of o out) × (left ≡ slots_of o out)

-- what a callee answered is handed on
pub passed : {o p : Outcome} {left : List ℕ} {r : ℤ} (out : List ℕ) → mag r < 2 ^ 63 → Ended o out left r → o ≡ p → Ended p out left (to_z w64 (of_z w64 r))
passed out fits e q = rw (sym q) (to_z-of_z {w = w64} (record { sfits = fits }) ∙ e.0, e.1)

-- a refusal: the slots are as they were
pub stopped : {p : Outcome} {n : ℕ} {r : ℤ} (out : List ℕ) → mag r < 2 ^ 63 → r ≡ number_of (refuses n) → refuses n ≡ p → Ended p out out (to_z w64 (of_z w64 r))
unfolding answer_of slots_of lent filled
stopped out fits e q = rw (sym q) (to_z-of_z {w = w64} (record { sfits = fits }) ∙ e, refl)

-- too few slots
pub too_few : {r : ℤ} (n : ℕ) (out xs : List ℕ) → length out < length xs → mag r < 2 ^ 63 → r ≡ number_of (refuses 20)
    → Ended (answers n xs) out out (to_z w64 (of_z w64 r))
unfolding answer_of slots_of lent filled
too_few n out xs h fits e = simp (lt-ltb _ _ h) (to_z-of_z {w = w64} (record { sfits = fits }) ∙ e, refl)

-- enough of them, and all values written
pub written : (n : ℕ) (out xs left : List ℕ) → length xs ≤ length out → n < 2 ^ 63 → left ≡ overwrite out 0 xs → Ended (answers n xs) out left (to_z w64 n)
unfolding answer_of slots_of lent filled number_of
written n out xs left h fits e = simp (le-ltb _ _ h) (to_z_pos w64 fits, e)

-- an answer that has no slots asks for none
pub silent : {p : Outcome} (out : List ℕ) → answers 0 [] ≡ p → Ended p out out (to_z w64 0)
unfolding overwrite
silent out q = rw (sym q) (written 0 out [] out (omega arith) (omega arith) refl)

-- a callee that was lent the same slots: what it said is the outcome with them lent, and what it left is what that leaves
pub record ByCallee (o : Outcome) (out left : List ℕ) (said : Outcome) : Type 0 where
  pub says : said ≡ lent o out
  pub leaves : left ≡ filled said out

-- with slots enough, with too few, and where it refuses whatever is lent
pub lent-enough : (n : ℕ) (out xs : List ℕ) → length xs ≤ length out → ByCallee (answers n xs) out (overwrite out 0 xs) (answers n xs)
unfolding lent filled
lent-enough n out xs h = record { says = simp (le-ltb _ _ h); leaves = refl }

pub lent-few : (n : ℕ) (out xs : List ℕ) → length out < length xs → ByCallee (answers n xs) out out (refuses buffer_too_short)
unfolding lent filled
lent-few n out xs h = record { says = simp (lt-ltb _ _ h); leaves = refl }

pub lent_any : (n : ℕ) (out : List ℕ) → ByCallee (refuses n) out out (refuses n)
unfolding lent filled
lent_any n out = record { says = refl; leaves = refl }

module _ {o : Outcome} {out left : List ℕ} where
  left_by : {said : Outcome} → ByCallee o out left said → left ≡ slots_of o out
  unfolding slots_of
  left_by h = h.leaves ∙ ap (λ (x : Outcome). filled x out) h.says

  -- the export hands on its number
  pub callee-told : {n : ℕ} {xs : List ℕ} → ByCallee o out left (answers n xs) → n < 2 ^ 63 → Ended o out left (to_z w64 n)
  unfolding answer_of number_of
  callee-told h fits = (to_z_pos w64 fits ∙ ap number_of h.says, left_by h)

  -- or its refusal
  pub callee-refused : {n : ℕ} {r : ℤ} → ByCallee o out left (refuses n) → mag r < 2 ^ 63 → r ≡ number_of (refuses n)
      → Ended o out left (to_z w64 (of_z w64 r))
  unfolding answer_of
  callee-refused h fits e = (to_z-of_z {w = w64} (record { sfits = fits }) ∙ e ∙ ap number_of h.says, left_by h)

-- what a callee told of a value, handed on
pub handed : {A : Type 0} (outcome : A → Outcome) {a b : A} {r : ℤ} → mag r < 2 ^ 63 → a ≡ b → r ≡ number_of (outcome a)
    → to_z w64 (of_z w64 r) ≡ number_of (outcome b)
handed {A} outcome fits e q = to_z-of_z {w = w64} (record { sfits = fits }) ∙ q ∙ ap (λ (x : A). number_of (outcome x)) e

-- the answer of an export without slots
pub told : {p : Outcome} (n : ℕ) → n < 2 ^ 63 → answers n [] ≡ p → to_z w64 n ≡ number_of p
unfolding number_of
told n fits q = rw (sym q) (to_z_pos w64 fits)

-- and its refusal
pub denied : {p : Outcome} {n : ℕ} {r : ℤ} → mag r < 2 ^ 63 → r ≡ number_of (refuses n) → refuses n ≡ p → to_z w64 (of_z w64 r) ≡ number_of p
denied fits e q = rw (sym q) (to_z-of_z {w = w64} (record { sfits = fits }) ∙ e)
