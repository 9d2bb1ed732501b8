-- `fit::walk_columns` meets its contract. The loop's invariant: the types of the set's columns are those put down and those still to
-- come, and the records passed have no misfit of their own. Assumes nothing.
use Rattle.fit.proofs.ColumnTurns.{Left}
use Prim.Native.Nat.{◌-◌}
use lib.ListN.{length}
use Rattle.fit.proofs.walk_columns.Given as goal

abbrev pub invariant-loop-kind : goal.invariant-loop-kind
invariant-loop-kind l = Left l.s l.from l.at l.count l.types

abbrev pub decreases-loop-kind : goal.decreases-loop-kind
decreases-loop-kind l = length l.s - l.at
