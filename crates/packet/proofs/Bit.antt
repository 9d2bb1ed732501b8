-- A test of one bit by a mask is `has_bit` of its weight, at any bit. Assumes nothing.
use Prim.Native.Nat.{ℕ, zero, suc, ◌+◌, ◌-◌, ◌*◌, ◌/◌, ◌%◌, ◌^◌, ◌<◌}
use mathlib.Core.Path.{◌≡◌}
use mathlib.Core.Bool.{not}
use native.Mathlib.Nat.{zero-mul, one-mul}
use native.Mathlib.Omega.{arith}
use lib.Dec.{eqb}
use lib.Bits.{bit_and, and_high}
use borrow.Author.Tests.{ne_eqb}
use Rattle.packet.specs.Status.{has_bit}

digit : (m w : ℕ) → m < 2 → 0 < w → not (eqb (m * w) 0) ≡ eqb m 1
digit zero w h p = rw zero-mul
digit (suc zero) w h p = rw one-mul (simp (ne_eqb w 0 (λ e. omega arith)))
digit (suc (suc m)) w h p = absurd (omega arith)

pub masked : (k n : ℕ) → 0 < 2 ^ k → not (eqb (bit_and n (2 ^ (1 + k) - 2 ^ k)) 0) ≡ has_bit (2 ^ k) n
unfolding has_bit
masked k n p = rw (and_high n 1 k) (digit (n / 2 ^ k % 2) (2 ^ k) (omega arith) p)
