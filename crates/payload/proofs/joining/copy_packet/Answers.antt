-- `payload::joining::copy_packet` meets its contract. Assumes nothing.
use Prim.Native.Nat.{◌+◌, ◌-◌, ◌*◌}
use native.Mathlib.Nat.{add-sub_cancel_left}
use Rattle.payload.proofs.joining.copy_packet.Goals as goal

pub returns : goal.returns
returns c = let f = c.args.frame in
    rw (add-sub_cancel_left (f.base + 8 * f.number) (f.end - f.base)) at c.put_slice.ensures.buf_after
