-- `response::error_tokens` meets its contract. Assumes nothing.
use native.Mathlib.Omega.{arith}
use Rattle.token.proofs.Sizes.{size-done, size-message}
use Rattle.response.proofs.Ends.{faulted, refused, wrote}
use Rattle.wire.proofs.Puts.{then}
use mathlib.Core.List.{[]}
use lib.ListN.{length-append}
use Rattle.token.specs.Tokens.{done, message, token_bytes}
use Rattle.response.specs.Replies.{error_tokens_reply}
use borrow.Author.Rules.{rules}
use Rattle.response.proofs.error_tokens.Goals as goal

pub returns-in_err-text_fault : goal.returns-in_err-text_fault
unfolding error_tokens_reply
returns-in_err-text_fault c = let a = c.args in
    let w = faulted _ a.buf.now _ _ c.from_residual.ensures.1 c.in_err-text_fault.ensures in record { value = w.0; buf_after = w.1 }

pub returns-in_err-refusal : goal.returns-in_err-refusal
unfolding error_tokens_reply
returns-in_err-refusal c = let a = c.args in
    let w = refused _ _ a.buf.now c.in_ok-text_fault.ensures (omega (arith, size-message 0xAA a.number 1 a.severity a.message.now [] [] 1, size-done a.status 0xC1 0, length-append (token_bytes (message 0xAA a.number 1 a.severity a.message.now [] [] 1)) (token_bytes (done a.status 0xC1 0)))) _ _ c.from_residual-in_err-refusal.ensures.1 c.in_err-refusal.ensures in record { value = w.0; buf_after = w.1 }

pub returns : goal.returns
unfolding error_tokens_reply
returns c = let a = c.args in
    let w = wrote _ _ a.buf.now c.in_ok-text_fault.ensures (omega (arith, size-message 0xAA a.number 1 a.severity a.message.now [] [] 1, size-done a.status 0xC1 0, length-append (token_bytes (message 0xAA a.number 1 a.severity a.message.now [] [] 1)) (token_bytes (done a.status 0xC1 0)))) c.in_ok-refusal.ensures (then c.put_message.ensures c.put_done.ensures).wrote in record { value = w.0; buf_after = search (rules, w.1) }
