-- `cells::chunk_at` meets its contract. Assumes nothing.
use mathlib.Core.Path.{sym, ap, ◌∙◌}
use borrow.Author.Tests.{eq-eqb, ne_eqb}
use Rattle.std.proofs.lemmas.Result.{err_from_is_err_and}
use Rattle.payload.proofs.CodeReads.{number-got, number-not, part-got, part-not, must-hold, must-not, if-so, if-not}
use Rattle.cells.specs.Code.{chunk_read}
use Rattle.cells.specs.Cells.{chunk_at}
use Rattle.cells.proofs.chunk_at.Goals as goal

pub returns-in_err-size : goal.returns-in_err-size
unfolding chunk_at
returns-in_err-size c =
    let p = err_from_is_err_and c.from_residual.result c.from_residual.ensures.1 in
    rw (p.1, p.2) (sym (ap chunk_read (number-not _ _ _ _ c.u32_at.ensures.0 c.in_err-size.was)))

pub returns-then-not-is_last : goal.returns-then-not-is_last
unfolding chunk_at
returns-then-not-is_last c = sym (ap chunk_read (number-got _ _ _ _ c.u32_at.ensures.0 c.in_ok-size.was ∙ if-so _ _ (eq-eqb _ _ c.if-len-eq0.true) ∙ must-not _ _ (sym c.is_last.ensures ∙ c.if-not-is_last.true)))

pub returns-then-len-eq0 : goal.returns-then-len-eq0
unfolding chunk_at
returns-then-len-eq0 c = sym (ap chunk_read (number-got _ _ _ _ c.u32_at.ensures.0 c.in_ok-size.was ∙ if-so _ _ (eq-eqb _ _ c.if-len-eq0.true) ∙ must-hold _ _ (sym c.is_last.ensures ∙ c.if-not-is_last.false)))

pub returns-then-not-is_chunk : goal.returns-then-not-is_chunk
unfolding chunk_at
returns-then-not-is_chunk c = sym (ap chunk_read (number-got _ _ _ _ c.u32_at.ensures.0 c.in_ok-size.was ∙ if-not _ _ (ne_eqb _ _ c.if-len-eq0.false) ∙ must-not _ _ (sym c.is_chunk.ensures ∙ c.if-not-is_chunk.true)))

pub returns-in_err-chunk : goal.returns-in_err-chunk
unfolding chunk_at
returns-in_err-chunk c =
    let p = err_from_is_err_and c.from_residual-in_err-chunk.result c.from_residual-in_err-chunk.ensures.1 in
    rw (p.1, p.2) (sym (ap chunk_read (number-got _ _ _ _ c.u32_at.ensures.0 c.in_ok-size.was ∙ if-not _ _ (ne_eqb _ _ c.if-len-eq0.false) ∙ must-hold _ _ (sym c.is_chunk.ensures ∙ c.if-not-is_chunk.false) ∙ part-not _ _ _ _ c.part_at.ensures c.in_err-chunk.was)))

pub returns : goal.returns
unfolding chunk_at
returns c = sym (ap chunk_read (number-got _ _ _ _ c.u32_at.ensures.0 c.in_ok-size.was ∙ if-not _ _ (ne_eqb _ _ c.if-len-eq0.false) ∙ must-hold _ _ (sym c.is_chunk.ensures ∙ c.if-not-is_chunk.false) ∙ part-got _ _ _ _ c.part_at.ensures c.in_ok-chunk.was) ∙ rw (ne_eqb _ _ c.if-len-eq0.false))
