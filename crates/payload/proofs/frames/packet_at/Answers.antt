-- `payload::frames::packet_at` meets its contract. Assumes nothing.
use mathlib.Core.Path.{sym}
use native.Mathlib.Omega.{arith}
use Rattle.payload.proofs.Walk.{is-over, is-short, is-more, index-fault, index-next, next-size}
use Rattle.payload.proofs.frames.packet_at.Goals as goal

pub returns-then-ended : goal.returns-then-ended
returns-then-ended c = let a = c.args in sym (is-over a.lent.now a.at a.number c.if-lent-at.true c.if-ended.true)

pub returns-then-lent-at : goal.returns-then-lent-at
returns-then-lent-at c = let a = c.args in sym (is-short a.lent.now a.at a.number c.if-lent-at.true c.if-ended.false)

pub returns-then-ended-2 : goal.returns-then-ended-2
returns-then-ended-2 c = let a = c.args in sym (is-more a.lent.now a.at a.number c.if-lent-at.false c.if-ended-2.true)

pub returns-in_default : goal.returns-in_default
returns-in_default c = let a = c.args in index-fault a.lent.now a.at a.number c.if-lent-at.false c.if-ended-2.false c.next_length.ensures c.in_default.is c.fault_in.ensures

pub overflow_sub-result : goal.overflow_sub-result
overflow_sub-result c = omega (arith, next-size _ _ c.next_length.ensures c.in-Some.is)

pub returns : goal.returns
returns c = let a = c.args in
    index-next a.lent.now a.at a.number c.if-lent-at.false c.if-ended-2.false c.next_length.ensures c.in-Some.is
    (rw (sym c.get_u8.ensures) c.is_end_of_message.ensures)
