-- `response::build_fedauth_info_token` meets its contract. Assumes nothing.
use native.Mathlib.Omega.{arith}
use Rattle.response.proofs.Ends.{faulted, refused, wrote}
use Rattle.response.specs.Replies.{fedauth_info_reply}
use borrow.Author.Rules.{rules}
use Rattle.response.proofs.build_fedauth_info_token.Goals as goal

pub returns-in_err-texts_fault : goal.returns-in_err-texts_fault
unfolding fedauth_info_reply
returns-in_err-texts_fault c = let a = c.args in
    let w = faulted _ a.buf.now _ _ c.from_residual.ensures.1 c.in_err-texts_fault.ensures in record { value = w.0; buf_after = w.1 }

pub returns-in_err-refusal : goal.returns-in_err-refusal
unfolding fedauth_info_reply
returns-in_err-refusal c = let a = c.args in
    let w = refused _ _ a.buf.now c.in_ok-texts_fault.ensures (omega (arith, c.fedauth_info_size.ensures)) _ _ c.from_residual-in_err-refusal.ensures.1 c.in_err-refusal.ensures in record { value = w.0; buf_after = w.1 }

pub returns : goal.returns
unfolding fedauth_info_reply
returns c = let a = c.args in
    let w = wrote _ _ a.buf.now c.in_ok-texts_fault.ensures (omega (arith, c.fedauth_info_size.ensures)) c.in_ok-refusal.ensures c.put_fedauth_info.ensures.wrote in record { value = w.0; buf_after = search (rules, w.1) }
