-- Surrogates after a high one, and the units of a text by number. Assumes nothing.
use mathlib.Core.Path.{◌≡◌, refl}
use mathlib.Core.List.{List, [], ◌∷◌}
use mathlib.Core.Bool.{Bool, true, false, not}
use Prim.Native.Nat.{ℕ, zero, suc, ◌*◌, ◌/◌}
use native.Mathlib.Omega.{arith}
use lib.ListN.{length, drop}
use lib.Seq.{drop-nil}
use Rattle.text.specs.Units.{units_of, units}
use Rattle.text.specs.Surrogates.{paired}
use Rattle.text.specs.declared.Surrogate.{Surrogate}
use Rattle.text.specs.declared.Surrogate.TheVariants.{High}

-- surrogates after a high one, or not after one
abbrev pub after : Bool → List Surrogate → List Surrogate
after true ks = High ∷ ks
after false ks = ks

pub after-all : (high : Bool) → paired (after high []) ≡ not high
unfolding paired
after-all true = refl
after-all false = refl

-- ---- units by number

pub length-units : (s : List ℕ) → length (units_of s) ≡ length s / 2
unfolding units_of
length-units [] = refl
length-units (a ∷ []) = refl
length-units (a ∷ b ∷ l) = omega (arith, length-units l)

-- a unit for every two bytes
pub units-half : (s : List ℕ) → units s ≡ length s / 2
unfolding units
units-half s = length-units s

-- the units from number n on are those from byte 2 n on
pub units-from : (n : ℕ) (s : List ℕ) → units_of (drop (2 * n) s) ≡ drop n (units_of s)
unfolding units_of
units-from zero s = refl
units-from (suc n) [] = rw (drop-nil (2 * suc n))
units-from (suc n) (a ∷ []) =
    let e : 2 * suc n ≡ suc (suc (2 * n)) = omega arith in rw (e, drop-nil (suc (2 * n)))
units-from (suc n) (a ∷ b ∷ l) =
    let e : 2 * suc n ≡ suc (suc (2 * n)) = omega arith in rw e (units-from n l)
