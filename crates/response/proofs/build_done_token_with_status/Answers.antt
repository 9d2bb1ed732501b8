-- `response::build_done_token_with_status` meets its contract. Assumes nothing.
use mathlib.Core.Path.{refl}
use native.Mathlib.Omega.{arith}
use Rattle.token.proofs.Sizes.{size-done}
use Rattle.response.proofs.Ends.{refused, wrote}
use Rattle.response.specs.Replies.{done_reply}
use borrow.Author.Rules.{rules}
use Rattle.response.proofs.build_done_token_with_status.Goals as goal

pub returns-in_err-refusal : goal.returns-in_err-refusal
unfolding done_reply
returns-in_err-refusal c = let a = c.args in
    let w = refused 13 _ a.buf.now refl (omega (arith, size-done a.status 0xC1 a.row_count)) _ _ c.from_residual.ensures.1 c.in_err-refusal.ensures in record { value = w.0; buf_after = w.1 }

pub returns : goal.returns
unfolding done_reply
returns c = let a = c.args in
    let w = wrote 13 _ a.buf.now refl (omega (arith, size-done a.status 0xC1 a.row_count)) c.in_ok-refusal.ensures c.put_done.ensures.wrote in record { value = w.0; buf_after = search (rules, w.1) }
