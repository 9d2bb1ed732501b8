-- `payload::joining::join` meets its contract. Assumes nothing.
use Rattle.std.proofs.lemmas.Result.{err_from_is_err_and}
use Rattle.payload.proofs.Payloads.{left, filled}
use Rattle.payload.proofs.joining.join.Goals as goal

pub returns-in_err-n : goal.returns-in_err-n
returns-in_err-n c = let a = c.args in
    let p = err_from_is_err_and c.from_residual.result c.from_residual.ensures.1 in
    let e = rw c.in_err-n.was at c.measured.ensures in
    record { value = rw (p.1, p.2) e; buf_after = left a.lent.now a.buf.now e }

pub returns : goal.returns
returns c = let a = c.args in
    let e = rw c.in_ok-n.was at c.measured.ensures in
    record { value = e; buf_after = filled a.lent.now a.buf.now e c.copy_payload.ensures }
