-- `capture_marks::count_marks` meets its contract. The loop's invariant is `Counting`. Assumes nothing.
use Prim.Native.Nat.{◌-◌}
use lib.ListN.{length}
use Rattle.capture_marks.proofs.Counting.{Counting}
use Rattle.capture_marks.proofs.count_marks.Given as goal

abbrev pub invariant-loop-kind : goal.invariant-loop-kind
invariant-loop-kind l = Counting l.capture l.at l.count

abbrev pub decreases-loop-kind : goal.decreases-loop-kind
decreases-loop-kind l = length l.capture - l.at
