-- `reader::are_types` meets its contract. Assumes nothing.
use mathlib.Core.Path.{◌≡◌}
use Prim.Native.Nat.{◌≤◌}
use Rattle.reader.specs.Positions.{held}
use Rattle.reader.proofs.are_types.Given as goal

abbrev pub invariant-loop-i : goal.invariant-loop-i
invariant-loop-i l = (l.i ≤ l.n) × (l.n ≤ 128) × (l.all ≡ held l.i l.types l.limits)
