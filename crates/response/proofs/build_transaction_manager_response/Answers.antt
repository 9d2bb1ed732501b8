-- `response::build_transaction_manager_response` meets its contract. Assumes nothing.
use native.Mathlib.Omega.{arith}
use Rattle.wire.specs.Le.{le}
use Rattle.wire.specs.Fields.{flat}
use Rattle.token.specs.Tokens.{token_bytes}
use borrow.Author.Tests.{ne_eqb}
use Rattle.response.specs.Replies.{transaction_reply, done_reply}
use Rattle.response.proofs.build_transaction_manager_response.Goals as goal

pub returns-in-5 : goal.returns-in-5
unfolding transaction_reply token_bytes flat le
returns-in-5 c = rw c.in-5.is (record { value = c.fixed.ensures.value; buf_after = c.fixed.ensures.buf_after })

pub returns-in-7 : goal.returns-in-7
unfolding transaction_reply token_bytes flat le
returns-in-7 c = rw c.in-7.is (record { value = c.fixed-in-7.ensures.value; buf_after = c.fixed-in-7.ensures.buf_after })

pub returns-in-8 : goal.returns-in-8
unfolding transaction_reply token_bytes flat le
returns-in-8 c = rw c.in-8.is (record { value = c.fixed-in-8.ensures.value; buf_after = c.fixed-in-8.ensures.buf_after })

pub returns-in_default : goal.returns-in_default
unfolding transaction_reply token_bytes flat le done_reply
returns-in_default c = let t = c.args.request_type in
    simp (ne_eqb t 5 (λ q. omega arith), ne_eqb t 7 (λ q. omega arith), ne_eqb t 8 (λ q. omega arith))
    (record { value = c.build_done_token.ensures.value; buf_after = c.build_done_token.ensures.buf_after })
