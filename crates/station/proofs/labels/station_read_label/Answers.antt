-- `station::labels::station_read_label` meets its contract. Assumes nothing.
use mathlib.Core.Path.{sym}
use native.Mathlib.Omega.{arith}
use Rattle.station.proofs.Ends.{callee-told, callee-refused}
use Rattle.station.proofs.LabelEnds.{label-read}
use Rattle.station.proofs.labels.station_read_label.Goals as goal

pub overflow_cast-result : goal.overflow_cast-result
overflow_cast-result c = let a = c.args in
    let e = rw c.in-Ok-Some.field-0-is at c.in-Ok-Some.ensures.value in
    omega (arith, (label-read a.value.now a.buf.now (sym e) c.read_value.ensures.buf_after).0)

pub returns-in-Ok-Some : goal.returns-in-Ok-Some
returns-in-Ok-Some c = let a = c.args in
    let e = rw c.in-Ok-Some.field-0-is at c.in-Ok-Some.ensures.value in
    let s = label-read a.value.now a.buf.now (sym e) c.read_value.ensures.buf_after in
    let w = callee-told s.2 (omega (arith, s.0)) in record { value = w.0; buf_after = w.1 }

pub returns-in-Ok-None : goal.returns-in-Ok-None
returns-in-Ok-None c = let a = c.args in
    let e = rw c.in-Ok-None.field-0-is at c.in-Ok-None.ensures.value in
    let s = label-read a.value.now a.buf.now (sym e) c.read_value.ensures.buf_after in
    let w = callee-told s (omega arith) in record { value = w.0; buf_after = w.1 }

pub returns-in-Err : goal.returns-in-Err
returns-in-Err c = let a = c.args in
    let s = label-read a.value.now a.buf.now (sym c.in-Err.ensures.value) c.read_value.ensures.buf_after in
    let w = callee-refused s c.refused.type_inv (rw c.number.ensures at c.refused.ensures) in record { value = w.0; buf_after = w.1 }
