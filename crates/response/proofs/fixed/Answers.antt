-- `response::fixed` meets its contract. Assumes nothing.
use mathlib.Core.Path.{refl}
use Rattle.response.proofs.Ends.{refused, wrote}
use borrow.Author.Rules.{rules}
use Rattle.response.proofs.fixed.Goals as goal

pub returns-in_err-refusal : goal.returns-in_err-refusal
returns-in_err-refusal c = let a = c.args in
    let w = refused _ a.bytes.now a.buf.now refl refl _ _ c.from_residual.ensures.1 c.in_err-refusal.ensures in record { value = w.0; buf_after = w.1 }

pub returns : goal.returns
returns c = let a = c.args in
    let w = wrote _ a.bytes.now a.buf.now refl refl c.in_ok-refusal.ensures c.put_slice.ensures.wrote in record { value = w.0; buf_after = search (rules, w.1) }
