-- `response::lists::measure_records` meets its contract. The loop's invariant: the place is in the list, and what is left from it
-- on refuses as the whole list does and has the size that the whole has more than the size so far, as far as it counts.
-- Assumes nothing.
use Rattle.response.proofs.Measuring.{Measuring}
use Prim.Native.Nat.{◌-◌, ◌≤◌}
use lib.ListN.{length}
use Rattle.response.proofs.lists.measure_records.Given as goal

abbrev pub invariant-loop-kind : goal.invariant-loop-kind
invariant-loop-kind g l = let of = g.L.Listed in (l.at ≤ length l.list) × Measuring of.record_fault (of.record_size l.of) l.list l.at l.size

abbrev pub decreases-loop-kind : goal.decreases-loop-kind
decreases-loop-kind g l = length l.list - l.at
