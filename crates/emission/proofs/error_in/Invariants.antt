-- `emission::error_in` meets its contract. The loop's invariant: the error of the records from `place` on is that from `at` on.
-- Assumes nothing.
use Prim.Native.Nat.{◌-◌}
use Rattle.emission.proofs.Walks.{error_place, error_bytes}
use mathlib.Core.Path.{◌≡◌}
use lib.ListN.{length}
use Rattle.emission.proofs.error_in.Given as goal

abbrev pub invariant-loop-k : goal.invariant-loop-k
invariant-loop-k l = (error_place l.s l.kind l.place ≡ error_place l.s l.kind l.at) × (error_bytes l.s l.kind l.place ≡ error_bytes l.s l.kind l.at)

abbrev pub decreases-loop-k : goal.decreases-loop-k
decreases-loop-k l = length l.s - l.place
