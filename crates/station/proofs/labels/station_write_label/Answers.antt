-- `station::labels::station_write_label` meets its contract. Assumes nothing.
use mathlib.Core.Path.{sym}
use native.Mathlib.Omega.{arith}
use Rattle.station.proofs.Ends.{callee-told, callee-refused}
use Rattle.station.proofs.LabelEnds.{label-written}
use Rattle.station.proofs.labels.station_write_label.Goals as goal

pub overflow_cast-result : goal.overflow_cast-result
overflow_cast-result c = let a = c.args in
    omega (arith, (label-written a.text.now a.buf.now (sym c.in-Ok.ensures.value) c.write_value.ensures.buf_after).0)

pub returns-in-Ok : goal.returns-in-Ok
returns-in-Ok c = let a = c.args in
    let s = label-written a.text.now a.buf.now (sym c.in-Ok.ensures.value) c.write_value.ensures.buf_after in
    let w = callee-told s.2 (omega (arith, s.0)) in record { value = w.0; buf_after = w.1 }

pub returns-in-Err : goal.returns-in-Err
returns-in-Err c = let a = c.args in
    let s = label-written a.text.now a.buf.now (sym c.in-Err.ensures.value) c.write_value.ensures.buf_after in
    let w = callee-refused s c.refused.type_inv (rw c.number.ensures at c.refused.ensures) in record { value = w.0; buf_after = w.1 }
