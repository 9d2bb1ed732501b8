-- `packet::move_block` meets its contract. Assumes nothing.
use Rattle.std.proofs.Common.{◌≡◌, ◌+◌, ◌-◌, ◌∙◌, take, drop, length, length-drop, arith}
use lib.Seq.{length-take-le}
use Rattle.wire.proofs.Std.{mid-over}
use Rattle.packet.proofs.move_block.Goals as goal

pub returns : goal.returns
returns c = let a = c.args in
    let block = take 32 (drop a.from a.buf.now) in
    let long : length block ≡ 32 = length-take-le 32 (drop a.from a.buf.now) (omega (arith, length-drop a.from a.buf.now)) in
    let some : a.from + 32 - a.from ≡ 32 = omega arith in
    rw (c.copy_from_slice-2.ensures.after ∙ c.copy_from_slice.ensures.after, some) (mid-over block a.buf.now a.to _ (omega (arith, long)) (omega (arith, long)))
