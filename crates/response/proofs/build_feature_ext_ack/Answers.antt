-- `response::build_feature_ext_ack` meets its contract. Assumes nothing.
use Rattle.script.specs.Records.{records}
use Rattle.response.proofs.Lengths.{features-same}
use native.Mathlib.Omega.{arith}
use Rattle.response.proofs.Measuring.{fault-of, size_of}
use Rattle.response.proofs.Ends.{faulted, refused, wrote}
use Rattle.response.specs.Replies.{features_reply}
use borrow.Author.Rules.{rules}
use Rattle.response.proofs.build_feature_ext_ack.Goals as goal

pub returns-in_err-size : goal.returns-in_err-size
unfolding features_reply
returns-in_err-size c = let a = c.args in
    let w = faulted _ a.buf.now _ _ c.from_residual.ensures.1 (fault-of _ _ _ c.in_err-size.ensures) in record { value = w.0; buf_after = w.1 }

pub overflow_add-size : goal.overflow_add-size
overflow_add-size c = omega (arith, (size_of _ _ c.in_ok-size.ensures).1)

pub returns-in_err-refusal : goal.returns-in_err-refusal
unfolding features_reply
returns-in_err-refusal c = let a = c.args in
    let list = size_of _ _ c.in_ok-size.ensures in
    let w = refused _ _ a.buf.now list.0 (features-same (records a.features.now) _ list.1) _ _ c.from_residual-in_err-refusal.ensures.1 c.in_err-refusal.ensures in record { value = w.0; buf_after = w.1 }

pub returns : goal.returns
unfolding features_reply
returns c = let a = c.args in
    let list = size_of _ _ c.in_ok-size.ensures in
    let w = wrote _ _ a.buf.now list.0 (features-same (records a.features.now) _ list.1) c.in_ok-refusal.ensures c.put_feature_ext_ack.ensures.wrote in record { value = w.0; buf_after = search (rules, w.1) }
