-- `response::build_info_token` meets its contract. Assumes nothing.
use native.Mathlib.Omega.{arith}
use Rattle.token.proofs.Sizes.{size-message}
use Rattle.response.proofs.Ends.{faulted, refused, wrote}
use Rattle.response.specs.Replies.{info_reply}
use borrow.Author.Rules.{rules}
use Rattle.response.proofs.build_info_token.Goals as goal

pub returns-in_err-info_fault : goal.returns-in_err-info_fault
unfolding info_reply
returns-in_err-info_fault c = let a = c.args in
    let w = faulted _ a.buf.now _ _ c.from_residual.ensures.1 c.in_err-info_fault.ensures in record { value = w.0; buf_after = w.1 }

pub returns-in_err-refusal : goal.returns-in_err-refusal
unfolding info_reply
returns-in_err-refusal c = let a = c.args in
    let w = refused _ _ a.buf.now c.in_ok-info_fault.ensures (omega (arith, size-message 0xAB a.number a.state a.severity a.message.now a.server_name.now a.proc_name.now a.line_number)) _ _ c.from_residual-in_err-refusal.ensures.1 c.in_err-refusal.ensures in record { value = w.0; buf_after = w.1 }

pub returns : goal.returns
unfolding info_reply
returns c = let a = c.args in
    let w = wrote _ _ a.buf.now c.in_ok-info_fault.ensures (omega (arith, size-message 0xAB a.number a.state a.severity a.message.now a.server_name.now a.proc_name.now a.line_number)) c.in_ok-refusal.ensures c.put_message.ensures.wrote in record { value = w.0; buf_after = search (rules, w.1) }
