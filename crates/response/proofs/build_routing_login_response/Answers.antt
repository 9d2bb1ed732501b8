-- `response::build_routing_login_response` meets its contract. Assumes nothing.
use native.Mathlib.Omega.{arith}
use Rattle.response.proofs.Measuring.{fault-of, size_of}
use Rattle.response.proofs.Ends.{faulted, sent, unsent, within}
use Rattle.script.specs.Records.{records}
use Rattle.response.proofs.Lengths.{routed-same}
use Rattle.response.specs.Replies.{routing_login_reply}
use borrow.Author.Rules.{rules}
use Rattle.wire.proofs.Puts.{place_in}
use Rattle.response.proofs.build_routing_login_response.Goals as goal

pub returns-in_err-routes_size : goal.returns-in_err-routes_size
unfolding routing_login_reply
returns-in_err-routes_size c = let a = c.args in
    let w = faulted _ a.buf.now _ _ c.from_residual.ensures.1 (fault-of _ _ _ c.in_err-routes_size.ensures) in record { value = w.0; buf_after = w.1 }

pub overflow_add-size-2 : goal.overflow_add-size-2
overflow_add-size-2 c = omega (arith, (size_of _ _ c.in_ok-routes_size.ensures).1)

pub overflow_add-size-3 : goal.overflow_add-size-3
overflow_add-size-3 c = omega (arith, (size_of _ _ c.in_ok-routes_size.ensures).1)

pub returns-in_err-refusal : goal.returns-in_err-refusal
unfolding routing_login_reply
returns-in_err-refusal c = let a = c.args in
    let list = size_of _ _ c.in_ok-routes_size.ensures in
    let w = unsent _ _ a.buf.now list.0 (routed-same a.redirect_host.now a.redirect_port (records a.routes.now) a.login_ack a.ack a.ack_before_routing _ c.login_size.ensures.0 list.1) _ _ c.from_residual-in_err-refusal.ensures.1 c.in_err-refusal.ensures in record { value = w.0; buf_after = w.1 }

pub overflow_cast-size : goal.overflow_cast-size
overflow_cast-size c = omega (arith, within _ _ c.in_ok-refusal.ensures)

pub put_routing_tokens-requires : goal.put_routing_tokens-requires
put_routing_tokens-requires c = place_in c.write_reply_header.ensures

pub returns : goal.returns
unfolding routing_login_reply
returns c = let a = c.args in
    let list = size_of _ _ c.in_ok-routes_size.ensures in
    let w = sent _ _ a.buf.now list.0 (routed-same a.redirect_host.now a.redirect_port (records a.routes.now) a.login_ack a.ack a.ack_before_routing _ c.login_size.ensures.0 list.1) c.in_ok-refusal.ensures c.write_reply_header.ensures.wrote c.put_routing_tokens.ensures.wrote in record { value = w.0; buf_after = search (rules, w.1) }
