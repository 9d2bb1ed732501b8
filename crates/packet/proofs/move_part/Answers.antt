-- `packet::move_part` meets its contract. Assumes nothing.
use mathlib.Core.Path.{◌∙◌}
use native.Mathlib.Omega.{arith}
use Rattle.packet.proofs.Cutting.{starts, as_long, moved-part}
use Rattle.packet.proofs.move_part.Goals as goal

pub move_down-requires : goal.move_down-requires
move_down-requires c = let a = c.args in
    let w = (rw c.part_header.ensures at c.write.ensures).wrote in (
      omega (arith, starts a.number a.last a.w.now.buf.now a.w.now.at a.from a.len (omega arith) (omega arith) w),
      omega (arith, as_long a.number a.last a.w.now.buf.now a.w.now.at a.from a.len (omega arith) (omega arith) w),
    )

pub returns : goal.returns
returns c = let a = c.args in
    let w = rw c.part_header.ensures at c.write.ensures in
    record {
      same = c.move_down.ensures.same ∙ w.same;
      wrote = moved-part a.number a.last a.w.now.buf.now a.w.now.at a.from a.len (omega arith) (omega arith) w.wrote c.move_down.ensures.wrote;
    }
