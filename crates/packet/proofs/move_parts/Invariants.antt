-- `packet::move_parts` meets its contract: what is left of the payload stands up to total, where the packets that are still owed
-- end too, and a turn writes the first of them. Assumes nothing.
use Prim.Native.Nat.{◌+◌, ◌-◌, ◌≤◌}
use mathlib.Core.Path.{◌≡◌}
use lib.ListN.{length}
use Rattle.wire.proofs.Puts.{Owes}
use Rattle.packet.specs.Inner.{Stands}
use Rattle.packet.proofs.Cutting.{held_left}
use Rattle.packet.proofs.move_parts.Given as goal

abbrev pub invariant-loop-place : goal.invariant-loop-place
invariant-loop-place l = Stands l.room l.w.at l.place l.total (length l.w.buf.now) × (l.number ≤ l.place + 1) × (length l.w.buf.now ≡ length l.initial.w.buf.now)
    × Owes l.initial.w (held_left l.room l.total l.initial.w.buf.now l.from 1) l.w (held_left l.room l.total l.w.buf.now l.place l.number)

abbrev pub decreases-loop-place : goal.decreases-loop-place
decreases-loop-place l = l.total - l.place
