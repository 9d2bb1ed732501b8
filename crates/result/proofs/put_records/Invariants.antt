-- `result::put_records` meets its contract. Assumes nothing.
use Prim.Native.Nat.{◌-◌, ◌≤◌}
use lib.ListN.{length}
use Rattle.wire.proofs.Puts.{Owes}
use Rattle.result.proofs.Writes.{records_left}
use Rattle.result.proofs.put_records.Given as goal

abbrev pub invariant-loop-kind : goal.invariant-loop-kind
invariant-loop-kind l = (l.place ≤ length l.s) × (l.w.at ≤ length l.w.buf.now) × (l.rows ≤ l.place) × Owes l.initial.w (records_left l.s l.from 0) l.w (records_left l.s l.place l.rows)

abbrev pub decreases-loop-kind : goal.decreases-loop-kind
decreases-loop-kind l = length l.s - l.place
