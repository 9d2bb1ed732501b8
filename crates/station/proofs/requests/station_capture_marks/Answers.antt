-- `station::requests::station_capture_marks` meets its contract. Assumes nothing.
use mathlib.Core.Path.{sym}
use native.Mathlib.Omega.{arith}
use Rattle.station.proofs.Captures.{marked}
use Rattle.station.proofs.Ends.{callee-told, callee-refused}
use Rattle.station.proofs.requests.station_capture_marks.Goals as goal

pub overflow_cast-result : goal.overflow_cast-result
overflow_cast-result c = let a = c.args in
    omega (arith, (marked a.capture.now a.out.now (sym c.in-Ok.ensures.value) c.marks.ensures.out_after).0)

pub returns-in-Ok : goal.returns-in-Ok
returns-in-Ok c = let a = c.args in
    let s = marked a.capture.now a.out.now (sym c.in-Ok.ensures.value) c.marks.ensures.out_after in
    let w = callee-told s.1 (omega (arith, s.0)) in record { value = w.0; out_after = w.1 }

pub returns-in-Err : goal.returns-in-Err
returns-in-Err c = let a = c.args in
    let s = marked a.capture.now a.out.now (sym c.in-Err.ensures.value) c.marks.ensures.out_after in
    let w = callee-refused s c.refused.type_inv (rw c.number.ensures at c.refused.ensures) in record { value = w.0; out_after = w.1 }
