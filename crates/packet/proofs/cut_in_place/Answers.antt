-- `packet::cut_in_place` meets its contract. Assumes nothing.
use mathlib.Core.Path.{refl}
use native.Mathlib.Omega.{arith}
use borrow.Author.Rules.{rules}
use Rattle.packet.proofs.Cutting.{no_room, too_short, long-enough, stands-first, cut-done}
use Rattle.packet.proofs.cut_in_place.Goals as goal

pub returns-then-size-le8 : goal.returns-then-size-le8
returns-then-size-le8 c = let a = c.args in
    let w = no_room a.size a.n a.buf.now (omega arith) in record { value = w.0; buf_after = w.1 }

pub returns-then-buf-total : goal.returns-then-buf-total
returns-then-buf-total c = let a = c.args in
    let w = too_short a.size a.n a.buf.now (omega arith) (omega (arith, c.packets_length-total.ensures)) in record { value = w.0; buf_after = w.1 }

pub overflow_sub-from : goal.overflow_sub-from
overflow_sub-from c = let a = c.args in
    long-enough a.size a.n a.buf.now (omega arith) _ c.packets_length-total.ensures (omega arith)

pub move_parts-requires : goal.move_parts-requires
move_parts-requires c = let a = c.args in
    (refl, omega arith, stands-first a.size a.n a.buf.now (omega arith) _ c.packets_length-total.ensures (omega arith))

pub returns : goal.returns
returns c = let a = c.args in
    let v = c.move_parts.ensures.wrote in
    let w = cut-done a.size a.n a.buf.now (omega arith) _ c.packets_length-total.ensures (omega arith) v in record { value = w.0; buf_after = search (rules, w.1) }
