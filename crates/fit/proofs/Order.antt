-- Places, and with them misfits, stand in a strict order in which one of two comes first. Assumes nothing.
use Prim.Native.Nat.{ℕ, ◌<◌}
use mathlib.Core.Path.{◌≡◌, refl, sym, ◌∙◌}
use mathlib.Core.Bool.{true, false}
use mathlib.Core.Logic.{◌⊎◌, inl, inr}
use mathlib.Core.List.{List, [], ◌∷◌}
use native.Mathlib.Omega.{arith}
use lib.Dec.{eqb}
use borrow.Author.Tests.{ltb-true, ltb-false, eqb-true, eqb-false, lt-ltb, le-ltb, eq-eqb, ne_eqb}
use Rattle.wire.proofs.Cases.{by-test, clash}
use Rattle.fit.specs.declared.Misfit.{Misfit}
use Rattle.fit.specs.declared.Misfit.TheVariants.{Classification, Column, Cell}
use Rattle.fit.specs.First.{place, earlier, before, InOrder}

-- ---- the first numbers of two places

module _ (x y : ℕ) (xs ys : List ℕ) where
  pub less-head : x < y → earlier (x ∷ xs) (y ∷ ys) ≡ true
  unfolding earlier
  less-head h = rw (ne_eqb x y (λ e. absurd (omega arith)), lt-ltb x y h)

  pub more-head : y < x → earlier (x ∷ xs) (y ∷ ys) ≡ false
  unfolding earlier
  more-head h = rw (ne_eqb x y (λ e. absurd (omega arith)), le-ltb x y (omega arith))

  heads : earlier (x ∷ xs) (y ∷ ys) ≡ true → (x < y) ⊎ ((x ≡ y) × (earlier xs ys ≡ true))
  unfolding earlier
  heads e = by-test (eqb x y) (λ t. inr (eqb-true x y t, rw t at e)) (λ t. inl (ltb-true x y (rw t at e)))

  not-heads : earlier (x ∷ xs) (y ∷ ys) ≡ false → (y < x) ⊎ ((x ≡ y) × (earlier xs ys ≡ false))
  unfolding earlier
  not-heads e =
      by-test (eqb x y) (λ t. inr (eqb-true x y t, rw t at e)) (λ t. inl (omega (arith, ltb-false x y (rw t at e), eqb-false x y t)))

pub same_head : (x : ℕ) (xs ys : List ℕ) → earlier (x ∷ xs) (x ∷ ys) ≡ earlier xs ys
unfolding earlier
same_head x xs ys = rw (eq-eqb x x refl)

same-heads : (x y : ℕ) (xs ys : List ℕ) → x ≡ y → earlier (x ∷ xs) (y ∷ ys) ≡ earlier xs ys
same-heads x y xs ys e = rw e (same_head y xs ys)

-- ---- the order of places

-- what is earlier than a place is earlier than all that is not
pub between : (xs ps ys : List ℕ) → earlier xs ps ≡ true → earlier ys ps ≡ false → earlier xs ys ≡ true
unfolding earlier
between xs [] ys e f = clash (cc)
between xs (p ∷ ps) [] e f = clash (cc)
between [] (p ∷ ps) (y ∷ ys) e f = refl
between (x ∷ xs) (p ∷ ps) (y ∷ ys) e f =
    elim (heads x p xs ps e) [
      | inl l ↦ elim (not-heads y p ys ps f) [ inl m ↦ less-head x y xs ys (omega arith) | inr m ↦ less-head x y xs ys (omega (arith, m.0)) ]
      | inr l ↦ elim (not-heads y p ys ps f) [
        | inl m ↦ less-head x y xs ys (omega (arith, l.0))
        | inr m ↦ same-heads x y xs ys (omega (arith, l.0, m.0)) ∙ between xs ps ys l.1 m.1
      ]
    ]

-- the same of places that are not earlier
pub not_earlier : (xs ps ys : List ℕ) → earlier xs ps ≡ false → earlier ps ys ≡ false → earlier xs ys ≡ false
not_earlier xs ps ys e f =
    by-test (earlier xs ys) (λ t. let u : true ≡ false = sym (between xs ys ps t f) ∙ e in clash (cc)) (λ t. t)

pub not-self : (xs : List ℕ) → earlier xs xs ≡ false
unfolding earlier
not-self [] = refl
not-self (x ∷ xs) = same_head x xs xs ∙ not-self xs

pub not_back : (xs ys : List ℕ) → earlier xs ys ≡ true → earlier ys xs ≡ false
unfolding earlier
not_back xs [] e = clash (cc)
not_back [] (y ∷ ys) e = refl
not_back (x ∷ xs) (y ∷ ys) e =
    elim (heads x y xs ys e) [ inl l ↦ more-head y x ys xs l | inr l ↦ same-heads y x ys xs (sym l.0) ∙ not_back xs ys l.1 ]

same_place : (xs ys : List ℕ) → earlier xs ys ≡ false → earlier ys xs ≡ false → xs ≡ ys
unfolding earlier
same_place [] [] e f = refl
same_place [] (y ∷ ys) e f = clash (cc)
same_place (x ∷ xs) [] e f = clash (cc)
same_place (x ∷ xs) (y ∷ ys) e f =
    elim (not-heads x y xs ys e) [
      | inl l ↦ elim (not-heads y x ys xs f) [ inl m ↦ absurd (omega arith) | inr m ↦ absurd (omega (arith, m.0)) ]
      | inr l ↦ elim (not-heads y x ys xs f) [
        | inl m ↦ absurd (omega (arith, l.0))
        | inr m ↦ rw (l.0, same_place xs ys l.1 m.1)
      ]
    ]

-- ---- of misfits

same-misfit : (m n : Misfit) → place m ≡ place n → m ≡ n
unfolding place
same-misfit (Classification k) (Classification l) e = cc
same-misfit (Column k c) (Column l d) e = cc
same-misfit (Cell k r c) (Cell l q d) e = cc
same-misfit (Classification k) (Column l d) e = let z : ◌≡◌ {A = ℕ} 1 2 = cc in absurd (omega arith)
same-misfit (Classification k) (Cell l q d) e = let z : ◌≡◌ {A = ℕ} 1 3 = cc in absurd (omega arith)
same-misfit (Column k c) (Classification l) e = let z : ◌≡◌ {A = ℕ} 2 1 = cc in absurd (omega arith)
same-misfit (Column k c) (Cell l q d) e = let z : ◌≡◌ {A = ℕ} 2 3 = cc in absurd (omega arith)
same-misfit (Cell k r c) (Classification l) e = let z : ◌≡◌ {A = ℕ} 3 1 = cc in absurd (omega arith)
same-misfit (Cell k r c) (Column l d) e = let z : ◌≡◌ {A = ℕ} 3 2 = cc in absurd (omega arith)

pub in_order : InOrder
unfolding before
in_order = (
  λ m. not-self (place m),
  λ m n o e f. between (place m) (place n) (place o) e (not_back (place n) (place o) f),
  λ m n e f. same-misfit m n (same_place (place m) (place n) e f),
)
