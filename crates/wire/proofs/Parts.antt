-- The laws of `part_bytes`: a part that starts past the end is empty, one that ends past it is what is left. Assumes nothing.
use mathlib.Core.Path.{◌≡◌}
use mathlib.Core.List.{List, []}
use Prim.Native.Nat.{ℕ, ◌+◌, ◌-◌, ◌≤◌}
use native.Mathlib.Omega.{arith}
use lib.ListN.{length, take, drop, length-drop, drop_of_length-le}
use lib.Seq.{take_all, take-nil}
use Rattle.wire.specs.declared.Part.{Part}
use Rattle.wire.specs.Part.{part_bytes}

pub part-past : (s : List ℕ) (p : Part) → length s ≤ p.start → part_bytes s p ≡ []
unfolding part_bytes
part-past s p h = rw (drop_of_length-le s h, take-nil p.len)

pub part-rest : (s : List ℕ) (p : Part) → length s ≤ p.start + p.len → part_bytes s p ≡ drop p.start s
unfolding part_bytes
part-rest s p h = take_all p.len (drop p.start s) (simp length-drop (omega arith))

-- the rest of a list as a slice has it
pub rest-is : (s : List ℕ) (at : ℕ) → take (length s - at) (drop at s) ≡ drop at s
rest-is s at = take_all (length s - at) (drop at s) (simp length-drop (omega arith))
