-- `packet::move_bytes` meets its contract: the bytes go up, by blocks and then one by one, and what is still to be moved stands at or
-- after what was written. Assumes nothing.
use Rattle.std.proofs.Common.{◌≡◌, ◌+◌, ◌*◌, arith, refl}
use Rattle.wire.specs.Over.{overwrite}
use Rattle.packet.proofs.Moved.{moved_more, move-more}
use Rattle.packet.proofs.move_bytes.Goals as goal

pub loop-n-init : goal.loop-n-init
unfolding overwrite
loop-n-init c = refl

pub loop-n-preserved : goal.loop-n-preserved
loop-n-preserved c = let a = c.args in
    let more : (c.loop-n.n + 1) * 32 ≡ c.loop-n.n * 32 + 32 = omega arith in
    rw more (moved_more a.buf.now a.to a.from (omega arith) c.loop-n.buf (c.loop-n.n * 32) 32 (omega arith) c.loop-n.invariant c.move_block.ensures)

pub loop-i-preserved : goal.loop-i-preserved
loop-i-preserved c = let a = c.args in
    move-more a.buf.now a.to a.from (omega arith) c.loop-i.buf c.loop-i.i (omega arith) c.loop-i.invariant
