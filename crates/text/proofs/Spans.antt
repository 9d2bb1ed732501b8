-- Which units lie in spans, from the tests that a `match` makes: single numbers, and ranges.
-- Assumes nothing.
use mathlib.Core.Path.{◌≡◌, refl, ap, ◌∙◌}
use mathlib.Core.List.{List, [], ◌∷◌}
use mathlib.Core.Bool.{Bool, true, false, ◌||◌}
use mathlib.Core.Logic.{inl, inr}
use Prim.Native.Nat.{ℕ, zero, suc, ◌≤◌, ◌<◌}
use native.Mathlib.Nat.{not-suc-le-zero, le_of_suc-le-suc, lt_of_not-le, le_antisymm}
use native.Mathlib.Decide.{dec_le}
use lib.ListN.{length, get_or}
use lib.Dec.{T}
use borrow.Author.Tests.{le-leb, lt-leb}
use types.Run.{OneOf}
use Rattle.text.specs.Units.{within}
use Rattle.text.specs.Space.{Span, in_any}

-- ---- one span

pub in_span : (lo hi u : ℕ) → lo ≤ u → u ≤ hi → within lo hi u ≡ true
in_span lo hi u h k = simp (le-leb _ _ h, le-leb _ _ k)

pub below_span : (lo hi u : ℕ) → u < lo → within lo hi u ≡ false
below_span lo hi u h = simp (lt-leb _ _ h)

pub above-span : (lo hi u : ℕ) → hi < u → within lo hi u ≡ false
above-span lo hi u h = elim (dec_le lo u) [ yes k ↦ simp (le-leb _ _ k, lt-leb _ _ h) | no k ↦ below_span lo hi u (lt_of_not-le k) ]

-- ---- a list of spans

or-true : (b : Bool) → (b || true) ≡ true
or-true true = refl
or-true false = refl

-- in span number i
pub inside : (u : ℕ) (xs : List Span) (i : ℕ) (d : Span) → i < length xs → (get_or xs i d).0 ≤ u → u ≤ (get_or xs i d).1 → in_any xs u ≡ true
unfolding in_any
inside u [] i d l h k = absurd (not-suc-le-zero l)
inside u (x ∷ r) zero d l h k = rw (in_span x.0 x.1 u h k)
inside u (x ∷ r) (suc i) d l h k = rw (inside u r i d (le_of_suc-le-suc l) h k) (or-true (within x.0 x.1 u))

-- in none
abbrev pub Apart : ℕ → List Span → Type 0
Apart u [] = Unit {0}
Apart u (x ∷ r) = (x.0 ≤ u → u ≤ x.1 → ⊥) × Apart u r

not_in : (lo hi u : ℕ) → (lo ≤ u → u ≤ hi → ⊥) → within lo hi u ≡ false
not_in lo hi u f =
    elim (dec_le lo u)
    [ yes h ↦ above-span lo hi u (lt_of_not-le (f h)) | no h ↦ below_span lo hi u (lt_of_not-le h) ]

pub outside : (u : ℕ) (xs : List Span) → Apart u xs → in_any xs u ≡ false
unfolding in_any
outside u [] a = refl
outside u (x ∷ r) a = rw (not_in x.0 x.1 u a.0, outside u r a.1)

-- ---- single numbers

-- none of some numbers
abbrev pub Nones : List ℕ → ℕ → Type 0
Nones [] u = Unit {0}
Nones (k ∷ ks) u = (u ≡ k → ⊥) × Nones ks u

pub nones : (k : ℕ) (ks : List ℕ) (u : ℕ) → (OneOf (k ∷ ks) u → ⊥) → Nones (k ∷ ks) u
nones k [] u f = (f, tt)
nones k (k' ∷ ks) u f = (λ e. f (inl e), nones k' ks u (λ o. f (inr o)))

-- a test that passes at each of some numbers, by computation, passes at one of them
abbrev pub Passes : (ℕ → Bool) → List ℕ → Type 0
Passes p [] = Unit {0}
Passes p (k ∷ ks) = T (p k) × Passes p ks

is_true : (b : Bool) → T b → b ≡ true
is_true true t = refl
is_true false t = absurd t

pub one-of : (p : ℕ → Bool) (k : ℕ) (ks : List ℕ) (u : ℕ) → Passes p (k ∷ ks) → OneOf (k ∷ ks) u → p u ≡ true
one-of p k [] u t e = ap p e ∙ is_true (p k) t.0
one-of p k (k' ∷ ks) u t (inl e) = ap p e ∙ is_true (p k) t.0
one-of p k (k' ∷ ks) u t (inr o) = one-of p k' ks u t.1 o

-- not in a span of one number
pub only : {u k : ℕ} → (u ≡ k → ⊥) → k ≤ u → u ≤ k → ⊥
only f h g = f (le_antisymm g h)
