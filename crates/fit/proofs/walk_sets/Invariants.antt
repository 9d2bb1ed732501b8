-- `fit::walk_sets` meets its contract. The loop's invariant: the first misfit of the sets from `at` on is the script's. Assumes nothing.
use Rattle.fit.proofs.SetTurns.{LeftSets}
use Prim.Native.Nat.{◌-◌}
use lib.ListN.{length}
use Rattle.fit.proofs.walk_sets.Given as goal

abbrev pub invariant-loop-start : goal.invariant-loop-start
invariant-loop-start l = LeftSets l.s l.at l.set

abbrev pub decreases-loop-start : goal.decreases-loop-start
decreases-loop-start l = length l.s - l.at
