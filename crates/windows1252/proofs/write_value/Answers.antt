-- `windows1252::write_value` meets its contract. Assumes nothing.
use mathlib.Core.Path.{sym}
use native.Mathlib.Omega.{arith}
use Rattle.std.proofs.lemmas.Result.{err_from_is_err_and}
use Rattle.refusals.proofs.Numbers.{number-not-0}
use Rattle.text.proofs.Scan.{length-units}
use Rattle.windows1252.proofs.CodeWrites.{accepted, ends-refused, ends-short, ends-value}
use Rattle.windows1252.proofs.write_value.Goals as goal

pub returns-in_err-fault_of : goal.returns-in_err-fault_of
returns-in_err-fault_of c = let a = c.args in
    let w = ends-refused a.text.now a.buf.now c.in_err-fault_of.ensures (number-not-0 c.in_err-fault_of.field-0.0) in
    let p = err_from_is_err_and c.from_residual.result c.from_residual.ensures.1 in
    record { value = rw (p.1, p.2) w.0; buf_after = w.1 }

pub value_size-size-requires : goal.value_size-size-requires
value_size-size-requires c = let t = c.args.text.now in
    omega (arith, length-units t, (accepted t (sym c.in_ok-fault_of.ensures)).few)

pub returns-then-buf-size : goal.returns-then-buf-size
returns-then-buf-size c = let a = c.args in
    let w = ends-short a.text.now a.buf.now (sym c.in_ok-fault_of.ensures) c.value_size-size.ensures c.if-buf-size.true in record { value = w.0; buf_after = w.1 }

pub put_value-requires : goal.put_value-requires
put_value-requires c = let t = c.args.text.now in
    record { text_value = sym c.in_ok-fault_of.ensures; text_in_bounds = rw (length-units t, ← c.value_size-size.ensures) (omega (arith, c.if-buf-size.false)) }

pub returns : goal.returns
returns c = let a = c.args in
    let w = ends-value a.text.now a.buf.now (sym c.in_ok-fault_of.ensures) c.value_size-size.ensures (omega (arith, c.if-buf-size.false)) c.put_value.ensures in record { value = w.0; buf_after = w.1 }
