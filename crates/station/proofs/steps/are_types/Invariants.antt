-- `station::steps::are_types` meets its contract. Assumes nothing.
use mathlib.Core.Path.{◌≡◌}
use mathlib.Core.Bool.{true}
use Prim.Native.Nat.{◌-◌, ◌≤◌}
use lib.ListN.{length}
use Rattle.station.proofs.Stepping.{held_to}
use Rattle.station.proofs.steps.are_types.Given as goal

abbrev pub invariant-loop-i : goal.invariant-loop-i
invariant-loop-i l = (l.i ≤ l.n) × (l.n ≤ 128) × (l.n ≤ length l.slots - 6) × (held_to l.slots l.i ≡ true)
