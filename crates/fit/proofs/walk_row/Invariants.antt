-- `fit::walk_row` meets its contract. The loop's invariant: what the cells from `at` on have against the columns that are left is
-- what the row has against all its columns, and the records passed have no misfit of their own. Assumes nothing.
use Rattle.fit.proofs.RowTurns.{Left}
use Prim.Native.Nat.{◌-◌}
use lib.ListN.{length}
use Rattle.fit.proofs.walk_row.Given as goal

abbrev pub invariant-loop-kind : goal.invariant-loop-kind
invariant-loop-kind l = Left l.s l.from l.types l.at l.column

abbrev pub decreases-loop-kind : goal.decreases-loop-kind
decreases-loop-kind l = length l.s - l.at
