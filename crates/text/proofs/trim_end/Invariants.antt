-- `text::trim_end` meets its contract. The loop's invariant: of the units that are left as many are kept as of all. Assumes nothing.
use Rattle.text.specs.Units.{units_of}
use Rattle.text.specs.Trim.{kept}
use Rattle.wire.specs.Le.{le_at}
use mathlib.Core.Path.{◌≡◌}
use mathlib.Core.List.{map}
use lib.ListN.{length}
use Rattle.text.proofs.trim_end.Given as goal

abbrev pub invariant-loop-pair : goal.invariant-loop-pair
invariant-loop-pair l = kept (map (le_at 2) l.units) ≡ kept (units_of l.s)

abbrev pub decreases-loop-pair : goal.decreases-loop-pair
decreases-loop-pair l = length l.units
