-- `packet::put_parts` meets its contract: with the packets of what is left of the payload still owed, a turn puts the first of
-- them. Assumes nothing.
use Prim.Native.Nat.{◌+◌, ◌≤◌}
use mathlib.Core.Path.{◌≡◌}
use lib.ListN.{length}
use Rattle.wire.proofs.Puts.{Owes}
use Rattle.packet.specs.Cut.{packets_of}
use Rattle.packet.proofs.Cutting.{packets_left}
use Rattle.packet.proofs.put_parts.Given as goal

abbrev pub invariant-loop-i : goal.invariant-loop-i
invariant-loop-i l = record {
  size : l.i-iterator.iter.size ≡ l.room;
  left : l.left ≡ length l.i-iterator.iter.rest.now;
  within : l.w.at ≤ length l.w.buf.now;
  owed : Owes l.initial.w (packets_of (8 + l.room) l.payload) l.w (packets_left l.room l.i-iterator.iter.rest.now (1 + l.i-iterator.count));
}
