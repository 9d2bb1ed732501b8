-- `response::build_error_response` meets its contract. Assumes nothing.
use native.Mathlib.Omega.{arith}
use Rattle.token.proofs.Sizes.{size-done}
use Rattle.response.proofs.Ends.{faulted, sent, unsent, within}
use Rattle.wire.proofs.Puts.{then}
use lib.ListN.{length-append}
use Rattle.wire.specs.Fields.{flat}
use Rattle.token.specs.Tokens.{done, token_bytes}
use Rattle.response.proofs.Lengths.{error-size}
use Rattle.response.specs.Replies.{error_reply, error_fields}
use borrow.Author.Rules.{rules}
use Rattle.response.proofs.build_error_response.Goals as goal

pub returns-in_err-text_fault : goal.returns-in_err-text_fault
unfolding error_reply
returns-in_err-text_fault c = let a = c.args in
    let w = faulted _ a.buf.now _ _ c.from_residual.ensures.1 c.in_err-text_fault.ensures in record { value = w.0; buf_after = w.1 }

pub returns-in_err-refusal : goal.returns-in_err-refusal
unfolding error_reply
returns-in_err-refusal c = let a = c.args in
    let m = a.message.now in
    let w = unsent _ _ a.buf.now c.in_ok-text_fault.ensures (omega (arith, error-size m, size-done 0 0xC1 0, length-append (flat (error_fields m)) (token_bytes (done 0 0xC1 0)))) _ _ c.from_residual-in_err-refusal.ensures.1 c.in_err-refusal.ensures in record { value = w.0; buf_after = w.1 }

pub overflow_cast-size : goal.overflow_cast-size
overflow_cast-size c = omega (arith, within _ _ c.in_ok-refusal.ensures)

pub returns : goal.returns
unfolding error_reply
returns c = let a = c.args in
    let m = a.message.now in
    let w = sent _ _ a.buf.now c.in_ok-text_fault.ensures (omega (arith, error-size m, size-done 0 0xC1 0, length-append (flat (error_fields m)) (token_bytes (done 0 0xC1 0)))) c.in_ok-refusal.ensures c.write_reply_header.ensures.wrote (then c.put_error.ensures c.put_done.ensures).wrote in record { value = w.0; buf_after = search (rules, w.1) }
