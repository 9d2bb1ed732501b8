-- The 64 bits of a number in two's complement are those that a cast gives. Assumes nothing.
use mathlib.Core.Path.{◌≡◌, refl}
use lib.IntN.{ℤ, pos, negsuc}
use mir.Syntax.{w64}
use mir.Val.{of_z}
use Rattle.station.specs.Steps.{bits_of}

pub bits-are : (z : ℤ) → of_z w64 z ≡ bits_of z
unfolding bits_of
bits-are (pos n) = refl
bits-are (negsuc n) = refl
