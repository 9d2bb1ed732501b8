-- `windows1252::read_value` meets its contract. Assumes nothing.
use native.Mathlib.Omega.{arith}
use Rattle.std.proofs.lemmas.Result.{err_from_is_err_and}
use Rattle.windows1252.proofs.CodeReads.{size-refused, size-null, size-text, ends-refused, ends-null, ends-short, ends-text}
use Rattle.windows1252.proofs.read_value.Goals as goal

pub returns-in_err-size : goal.returns-in_err-size
returns-in_err-size c = let a = c.args in
    let w = ends-refused a.value.now a.buf.now (size-refused _ c.in_err-size.ensures) in
    let p = err_from_is_err_and c.from_residual.result c.from_residual.ensures.1 in
    record { value = rw (p.1, p.2) w.0; buf_after = w.1 }

pub returns-in_default : goal.returns-in_default
returns-in_default c = let a = c.args in
    let w = ends-null a.value.now a.buf.now (size-null _ (rw c.in_default.is at c.in_ok-size.ensures)) in record { value = w.0; buf_after = w.1 }

pub returns-then-buf-size : goal.returns-then-buf-size
returns-then-buf-size c = let a = c.args in
    let t = size-text a.value.now (rw c.in-Some.is at c.in_ok-size.ensures) in
    let w = ends-short a.value.now a.buf.now t c.if-buf-size.true in record { value = w.0; buf_after = w.1 }

pub put_text-requires : goal.put_text-requires
put_text-requires c = let t = size-text c.args.value.now (rw c.in-Some.is at c.in_ok-size.ensures) in
    omega (arith, t.room, c.if-buf-size.false)

pub returns : goal.returns
returns c = let a = c.args in
    let t = size-text a.value.now (rw c.in-Some.is at c.in_ok-size.ensures) in
    let w = ends-text a.value.now a.buf.now t (omega (arith, c.if-buf-size.false)) c.put_text.ensures in record { value = w.0; buf_after = w.1 }
