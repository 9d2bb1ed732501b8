-- `response::lists::put_records` meets its contract. The loop's invariant: the place is in the list, and whoever writes what is left
-- from it on, after what is written, has written the whole. Assumes nothing.
use Rattle.response.proofs.Putting.{Putting}
use Prim.Native.Nat.{◌-◌, ◌≤◌}
use lib.ListN.{length}
use Rattle.response.proofs.lists.put_records.Given as goal

abbrev pub invariant-loop-kind : goal.invariant-loop-kind
invariant-loop-kind g l = (l.from ≤ length l.list) × Putting (g.L.Listed.record_bytes l.of) l.list l.initial.w l.from l.w

abbrev pub decreases-loop-kind : goal.decreases-loop-kind
decreases-loop-kind g l = length l.list - l.from
