-- `fit::walk_rows` meets its contract. The loop's invariant: the misfits of the records from `at` on are those from the first place on.
-- Assumes nothing.
use Rattle.fit.proofs.SetTurns.{Left}
use Prim.Native.Nat.{◌-◌}
use lib.ListN.{length}
use Rattle.fit.proofs.walk_rows.Given as goal

abbrev pub invariant-loop-kind : goal.invariant-loop-kind
invariant-loop-kind l = Left l.s l.set l.from l.types l.at l.row

abbrev pub decreases-loop-kind : goal.decreases-loop-kind
decreases-loop-kind l = length l.s - l.at
