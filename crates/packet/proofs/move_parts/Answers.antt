-- `packet::move_parts` meets its contract: what is left of the payload stands up to total, where the packets that are still owed
-- end too, and a turn writes the first of them. Assumes nothing.
use mathlib.Core.Path.{refl, ◌∙◌}
use native.Mathlib.Omega.{arith}
use Rattle.wire.proofs.Puts.{owes-less, owes-last, put_nothing}
use Rattle.packet.proofs.Cutting.{held_left, header-before, held-long, held-turn, stands-turn, held_none}
use Rattle.packet.proofs.move_parts.Goals as goal

pub loop-place-init : goal.loop-place-init
loop-place-init c = (rw c.requires.0 c.requires.2, omega arith, refl, λ n w. w)

pub move_part-requires : goal.move_part-requires
move_part-requires c = let a = c.args in
    let l = c.loop-place in
    let b = header-before a.room l.w.at l.place a.total l.w.buf.now l.invariant.0 (omega arith) in
    (omega arith, b, omega arith)

pub loop-place-preserved : goal.loop-place-preserved
loop-place-preserved c = let a = c.args in
    let l = c.loop-place in
    let len = c.min-len.result in
    let part = c.move_part.ensures in (
      stands-turn a.room l.w.at l.place a.total l.w.buf.now l.invariant.0 (omega arith) l.number len (omega arith) part.wrote,
      omega arith,
      held-long a.room l.w.at l.place a.total l.w.buf.now l.invariant.0 (omega arith) l.number len (omega arith) part.wrote ∙ l.invariant.2,
      owes-less a.w.now (held_left a.room a.total a.w.now.buf.now a.from 1) l.w _ _ l.invariant.3
          (held-turn a.room l.w.at l.place a.total l.w.buf.now l.invariant.0 (omega arith) l.number len (omega arith) part.wrote) part,
    )

pub returns : goal.returns
returns c = let a = c.args in
    let l = c.loop-place in
    owes-last a.w.now (held_left a.room a.total a.w.now.buf.now a.from 1) l.w _ l.invariant.3
    (held_none a.room a.total l.w.buf.now l.place l.number (omega arith))
    (put_nothing l.w (omega arith))
