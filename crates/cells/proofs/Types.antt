-- The column types by cases, and what follows for each. Assumes nothing.
use mathlib.Core.Path.{◌≡◌, refl}
use mathlib.Core.Bool.{Bool, true, false, ◌&&◌, ◌||◌}
use Prim.Native.Nat.{ℕ, ◌^◌, ◌≤◌, ◌<◌}
use native.Mathlib.Omega.{arith}
use lib.Dec.{eqb, leb}
use borrow.Author.Tests.{eqb-true, leb-true}
use Rattle.token.specs.Types.{length_width}
use Rattle.cells.specs.Cells.{is_code, is_type}

pub either : {X : Type 0} (a b : Bool) → (a || b) ≡ true → (a ≡ true → X) → (b ≡ true → X) → X
either true b e f g = f refl
either false b e f g = g e

pub both : (a b : Bool) → (a && b) ≡ true → (a ≡ true) × (b ≡ true)
both true b e = (refl, e)
both false b e = let z : ◌≡◌ {A = ℕ} 0 1 = cc in absurd (omega arith)

-- 26 with length 1 to 8; E7 bounded, or Max; A7 and A5 Max
pub type-cases : {X : Type 0} (code limit : ℕ) → is_type code limit ≡ true
    → (code ≡ 0x26 → 1 ≤ limit → limit ≤ 8 → X) → (code ≡ 0xE7 → limit ≤ 8000 → X)
    → (code ≡ 0xE7 → limit ≡ 0xFFFF → X) → (code ≡ 0xA7 → limit ≡ 0xFFFF → X) → (code ≡ 0xA5 → limit ≡ 0xFFFF → X) → X
unfolding is_type
type-cases {X} code limit e int text max varchar varbinary =
    either _ _ e
    (λ e1. either _ _ e1 (λ e2. integers (both (eqb code 0x26) _ e2)) (λ e2. texts (both (eqb code 0xE7) _ e2)))
    (λ e1. others (both _ (eqb limit 0xFFFF) e1))
  where
    integers : (eqb code 0x26 ≡ true) × ((eqb limit 1 || eqb limit 2 || eqb limit 4 || eqb limit 8) ≡ true) → X
    integers w =
        let c = eqb-true code 0x26 w.0 in
        either _ (eqb limit 8) w.1
        (λ e1. either _ (eqb limit 4) e1
        (λ e2. either (eqb limit 1) (eqb limit 2) e2
        (λ e3. let l = eqb-true limit 1 e3 in int c (omega arith) (omega arith))
        (λ e3. let l = eqb-true limit 2 e3 in int c (omega arith) (omega arith)))
        (λ e2. let l = eqb-true limit 4 e2 in int c (omega arith) (omega arith)))
        (λ e1. let l = eqb-true limit 8 e1 in int c (omega arith) (omega arith))

    texts : (eqb code 0xE7 ≡ true) × (((leb 1 limit && leb limit 8000) || eqb limit 0xFFFF) ≡ true) → X
    texts w =
        let c = eqb-true code 0xE7 w.0 in
        either _ (eqb limit 0xFFFF) w.1
        (λ e1. text c (leb-true limit 8000 (both (leb 1 limit) (leb limit 8000) e1).1))
        (λ e1. max c (eqb-true limit 0xFFFF e1))

    others : ((eqb code 0xA7 || eqb code 0xA5) ≡ true) × (eqb limit 0xFFFF ≡ true) → X
    others w =
        let l = eqb-true limit 0xFFFF w.1 in
        either (eqb code 0xA7) (eqb code 0xA5) w.0
        (λ e1. varchar (eqb-true code 0xA7 e1) l)
        (λ e1. varbinary (eqb-true code 0xA5 e1) l)

module _ (code limit : ℕ) (e : is_type code limit ≡ true) where
  pub code< : code < 256
  code< =
      type-cases code limit e (λ c l m. omega arith) (λ c l. omega arith) (λ c l. omega arith) (λ c l. omega arith) (λ c l. omega arith)

  pub code-known : is_code code ≡ true
  unfolding is_code
  code-known = type-cases code limit e (λ c l m. rw c) (λ c l. rw c) (λ c l. rw c) (λ c l. rw c) (λ c l. rw c)

  pub limit< : limit < 256 ^ length_width code
  unfolding length_width
  limit< =
      type-cases code limit e
      (λ c l m. rw c (omega arith)) (λ c l. rw c (omega arith)) (λ c l. rw c (omega arith)) (λ c l. rw c (omega arith)) (λ c l. rw c (omega arith))

  -- an integer's length
  pub integer-length : code ≡ 0x26 → (1 ≤ limit) × (limit ≤ 8)
  integer-length d =
      type-cases code limit e
      (λ c l m. (l, m)) (λ c l. absurd (omega arith)) (λ c l. absurd (omega arith)) (λ c l. absurd (omega arith)) (λ c l. absurd (omega arith))

  -- a Max type is none of integers
  pub max-code : limit ≡ 0xFFFF → eqb code 0x26 ≡ false
  max-code d =
      type-cases code limit e
      (λ c l m. absurd (omega arith)) (λ c l. rw c) (λ c l. rw c) (λ c l. rw c) (λ c l. rw c)
