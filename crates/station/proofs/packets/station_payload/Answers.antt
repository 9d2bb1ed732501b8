-- `station::packets::station_payload` meets its contract. Assumes nothing.
use mathlib.Core.Path.{sym}
use native.Mathlib.Omega.{arith}
use lib.ListN.{length}
use Rattle.payload.proofs.Payloads.{within}
use Rattle.station.proofs.Ends.{callee-told, callee-refused}
use Rattle.station.proofs.Joins.{joined}
use Rattle.station.proofs.packets.station_payload.Goals as goal

pub overflow_cast-result : goal.overflow_cast-result
overflow_cast-result c = let a = c.args in omega (arith, within a.packets.now (length a.buf.now) (rw c.in-Ok.is at c.join.ensures.value))

pub returns-in-Ok : goal.returns-in-Ok
returns-in-Ok c = let a = c.args in
    let e = rw c.in-Ok.is at c.join.ensures.value in
    let w = callee-told (joined a.packets.now a.buf.now (sym e) c.join.ensures.buf_after) (omega (arith, within a.packets.now (length a.buf.now) e)) in
    record { value = w.0; buf_after = w.1 }

pub returns-in-Err : goal.returns-in-Err
returns-in-Err c = let a = c.args in
    let e = rw c.in-Err.is at c.join.ensures.value in
    let w = callee-refused (joined a.packets.now a.buf.now (sym e) c.join.ensures.buf_after) c.refused.type_inv (rw c.number.ensures at c.refused.ensures) in
    record { value = w.0; buf_after = w.1 }
