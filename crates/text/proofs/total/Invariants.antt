-- `text::total` meets its contract. The loop's invariant: what is summed, and the sum over the units that are left, are the sum over
-- the text; at most three are counted for a unit, so the sum fits. Assumes nothing.
use Rattle.text.specs.Units.{total}
use Rattle.wire.specs.Le.{le_at}
use Prim.Native.Nat.{◌+◌, ◌*◌, ◌≤◌}
use mathlib.Core.Path.{◌≡◌}
use mathlib.Core.List.{map}
use lib.ListN.{drop}
use Rattle.text.proofs.total.Given as goal

abbrev pub invariant-loop-pair : goal.invariant-loop-pair
invariant-loop-pair g l = (l.n ≤ 3 * l.pair-index) × (l.n + total g.counted (map (le_at 2) (drop l.pair-index l.units)) ≡ total g.counted (map (le_at 2) l.units))
