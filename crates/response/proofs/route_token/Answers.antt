-- `response::route_token` meets its contract. Assumes nothing.
use native.Mathlib.Omega.{arith}
use Rattle.response.proofs.Ends.{faulted, refused, wrote}
use Rattle.response.proofs.Lengths.{route-size}
use borrow.Author.Rules.{rules}
use Rattle.response.proofs.route_token.Goals as goal

pub returns-in_err-texts_fault : goal.returns-in_err-texts_fault
returns-in_err-texts_fault c = let a = c.args in
    let w = faulted _ a.buf.now _ _ c.from_residual.ensures.1 c.in_err-texts_fault.ensures in record { value = w.0; buf_after = w.1 }

pub returns-in_err-refusal : goal.returns-in_err-refusal
returns-in_err-refusal c = let a = c.args in
    let w = refused _ _ a.buf.now c.in_ok-texts_fault.ensures (omega (arith, c.size.ensures, route-size a.host.now a.port a.kind a.database.now)) _ _ c.from_residual-in_err-refusal.ensures.1 c.in_err-refusal.ensures in record { value = w.0; buf_after = w.1 }

pub returns : goal.returns
returns c = let a = c.args in
    let w = wrote _ _ a.buf.now c.in_ok-texts_fault.ensures (omega (arith, c.size.ensures, route-size a.host.now a.port a.kind a.database.now)) c.in_ok-refusal.ensures c.put.ensures.wrote in record { value = w.0; buf_after = search (rules, w.1) }
