-- Column types as the code needs them: how long their lengths are, and which widths an integer column has. Assumes nothing.
use mathlib.Core.Path.{◌≡◌, refl}
use mathlib.Core.Bool.{Bool, true, false, cond, ◌||◌}
use Prim.Native.Nat.{ℕ}
use lib.Dec.{eqb}
use borrow.Author.Tests.{eqb-true}
use Rattle.token.specs.Types.{length_width}
use Rattle.cells.specs.Cells.{is_type}

-- a length that does not stand in one byte stands in two
pub width_two : (code : ℕ) → (length_width code ≡ 1 → ⊥) → length_width code ≡ 2
unfolding length_width
width_two code f = go (eqb code 0x26) f
  where
    go : (b : Bool) → (◌≡◌ {A = ℕ} (cond b 1 2) 1 → ⊥) → ◌≡◌ {A = ℕ} (cond b 1 2) 2
    go true f = absurd (f refl)
    go false f = refl

-- ---- an integer column's width is 1, 2, 4 or 8

abbrev one_of : Bool → Bool → Bool → Bool → Bool
one_of a b c d = a || b || c || d

one-of {ℓ} : {X : Type ℓ} (a b c d : Bool) → one_of a b c d ≡ true → (a ≡ true → X) → (b ≡ true → X) → (c ≡ true → X) → (d ≡ true → X) → X
one-of true b c d e f g h i = f refl
one-of false true c d e f g h i = g refl
one-of false false true d e f g h i = h refl
one-of false false false d e f g h i = i e

is-width : (w : ℕ) → is_type 0x26 w ≡ true → one_of (eqb w 1) (eqb w 2) (eqb w 4) (eqb w 8) ≡ true
unfolding is_type
is-width w e = go (one_of (eqb w 1) (eqb w 2) (eqb w 4) (eqb w 8)) e
  where
    go : (b : Bool) → ((b || false) || false) ≡ true → b ≡ true
    go true h = refl
    go false h = h

widths {ℓ} : {X : Type ℓ} (w : ℕ) → is_type 0x26 w ≡ true → (w ≡ 1 → X) → (w ≡ 2 → X) → (w ≡ 4 → X) → (w ≡ 8 → X) → X
widths w e f g h i =
    one-of (eqb w 1) (eqb w 2) (eqb w 4) (eqb w 8) (is-width w e)
    (λ q. f (eqb-true w 1 q)) (λ q. g (eqb-true w 2 q)) (λ q. h (eqb-true w 4 q)) (λ q. i (eqb-true w 8 q))

pub width-last : (w : ℕ) → is_type 0x26 w ≡ true → (w ≡ 1 → ⊥) → (w ≡ 2 → ⊥) → (w ≡ 4 → ⊥) → w ≡ 8
width-last w e f g h = widths w e (λ q. absurd (f q)) (λ q. absurd (g q)) (λ q. absurd (h q)) (λ q. q)
