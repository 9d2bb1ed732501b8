-- `response::build_fedauth_challenge_response` meets its contract. Assumes nothing.
use Rattle.response.proofs.Lengths.{challenge-same, fedauth-ack}
use native.Mathlib.Omega.{arith}
use Rattle.response.proofs.Ends.{faulted, sent, unsent, within}
use Rattle.wire.proofs.Puts.{then, put_as}
use Rattle.response.specs.Replies.{challenge_reply}
use borrow.Author.Rules.{rules}
use Rattle.response.proofs.build_fedauth_challenge_response.Goals as goal

pub returns-in_err-texts_fault : goal.returns-in_err-texts_fault
unfolding challenge_reply
returns-in_err-texts_fault c = let a = c.args in
    let w = faulted _ a.buf.now _ _ c.from_residual.ensures.1 c.in_err-texts_fault.ensures in record { value = w.0; buf_after = w.1 }

pub returns-in_err-refusal : goal.returns-in_err-refusal
unfolding challenge_reply
returns-in_err-refusal c = let a = c.args in
    let w = unsent _ _ a.buf.now c.in_ok-texts_fault.ensures (challenge-same a.sts_url.now a.spn.now _ c.fedauth_info_size.ensures) _ _ c.from_residual-in_err-refusal.ensures.1 c.in_err-refusal.ensures in record { value = w.0; buf_after = w.1 }

pub overflow_cast-size : goal.overflow_cast-size
overflow_cast-size c = omega (arith, within _ _ c.in_ok-refusal.ensures)

pub returns : goal.returns
unfolding challenge_reply
returns c = let a = c.args in
    let w = sent _ _ a.buf.now c.in_ok-texts_fault.ensures (challenge-same a.sts_url.now a.spn.now _ c.fedauth_info_size.ensures) c.in_ok-refusal.ensures c.write_reply_header.ensures.wrote (then (put_as c.put_slice.ensures fedauth-ack) c.put_fedauth_info.ensures).wrote in record { value = w.0; buf_after = search (rules, w.1) }
