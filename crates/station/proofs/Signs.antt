-- A number and its negation as an i64, at any number that an i64 holds. Assumes nothing.
use Prim.Native.Nat.{ℕ, zero, suc, ◌^◌, ◌<◌}
use mathlib.Core.Path.{◌≡◌, ◌∙◌}
use native.Mathlib.Omega.{arith}
use lib.IntN.{pos, neg_ℤ, ◌-ℤ◌, +ℤ_idl}
use mir.Syntax.{w64}
use mir.Val.{hbits, SFits, to_z, of_z}
use mir.Facts.{to_z_pos, to_z-of_z}

held : (n : ℕ) → n < 2 ^ hbits w64 → SFits w64 (neg_ℤ (pos n))
held zero h = record { sfits = h }
held (suc n) h = record { sfits = omega arith }

negated : (n : ℕ) → n < 2 ^ hbits w64 → to_z w64 0 -ℤ to_z w64 n ≡ neg_ℤ (pos n)
negated n h = rw (to_z_pos w64 h) (+ℤ_idl (neg_ℤ (pos n)))

-- `-n` does not wrap
pub minus-fits : (n : ℕ) → n < 2 ^ hbits w64 → SFits w64 (to_z w64 0 -ℤ to_z w64 n)
minus-fits n h = rw (negated n h) (held n h)

-- and is the negation
pub minus : (n : ℕ) → n < 2 ^ hbits w64 → to_z w64 (of_z w64 (to_z w64 0 -ℤ to_z w64 n)) ≡ neg_ℤ (pos n)
minus n h = to_z-of_z {w = w64} (minus-fits n h) ∙ negated n h
