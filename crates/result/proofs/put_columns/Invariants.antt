-- `result::put_columns` meets its contract. Assumes nothing.
use Rattle.wire.proofs.Puts.{Owes}
use Rattle.result.proofs.Writes.{columns_left}
use Prim.Native.Nat.{◌-◌, ◌≤◌}
use lib.ListN.{length}
use Rattle.result.proofs.put_columns.Given as goal

abbrev pub invariant-loop-kind : goal.invariant-loop-kind
invariant-loop-kind l = (l.place ≤ length l.s) × (l.w.at ≤ length l.w.buf.now) × Owes l.initial.w (columns_left l.s l.from) l.w (columns_left l.s l.place)

abbrev pub decreases-loop-kind : goal.decreases-loop-kind
decreases-loop-kind l = length l.s - l.place
