-- `emission::run_at` meets its contract. Assumes nothing.
use lib.ListN.{length}
use Rattle.emission.specs.Runs.{numbered_run}
use Rattle.emission.proofs.Aheads.{Reached}
use Prim.Native.Nat.{◌-◌}
use Rattle.emission.proofs.run_at.Given as goal

abbrev pub invariant-loop-k : goal.invariant-loop-k
invariant-loop-k l = Reached l.s l.at l.kind (numbered_run l.run)

abbrev pub decreases-loop-k : goal.decreases-loop-k
decreases-loop-k l = length l.s - l.run.next
