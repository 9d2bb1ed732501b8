-- `capture_marks::put_marks` meets its contract. The loop's invariant is `Marking`. Assumes nothing.
use Prim.Native.Nat.{◌-◌}
use lib.ListN.{length}
use Rattle.capture_marks.proofs.Marking.{Marking}
use Rattle.capture_marks.proofs.put_marks.Given as goal

abbrev pub invariant-loop-count : goal.invariant-loop-count
invariant-loop-count l = Marking l.capture l.initial.out l.at l.number l.count l.out

abbrev pub decreases-loop-count : goal.decreases-loop-count
decreases-loop-count l = length l.capture - l.at
