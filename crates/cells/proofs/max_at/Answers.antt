-- `cells::max_at` meets its contract. Assumes nothing.
use mathlib.Core.Path.{sym, ap, ◌∙◌}
use borrow.Author.Tests.{eq-eqb, ne_eqb}
use Rattle.std.proofs.lemmas.Result.{err_from_is_err_and}
use Rattle.payload.specs.Frames.{source_from}
use Rattle.payload.proofs.CodeReads.{number-got, number-not, must-hold, must-not, if-so, if-not, then-got, then-not}
use Rattle.cells.specs.Answers.{cell_read}
use Rattle.cells.specs.Cells.{max_at}
use Rattle.cells.proofs.CodeChunks.{chunks-is, chunks-is-not}
use Rattle.cells.proofs.max_at.Goals as goal

pub returns-in_err-total : goal.returns-in_err-total
unfolding max_at
returns-in_err-total c =
    let p = err_from_is_err_and c.from_residual.result c.from_residual.ensures.1 in
    rw (p.1, p.2) (sym (ap cell_read (number-not _ _ _ _ c.u64_at.ensures.0 c.in_err-total.was)))

pub returns-then-total : goal.returns-then-total
unfolding max_at
returns-then-total c = sym (ap cell_read (number-got _ _ _ _ c.u64_at.ensures.0 c.in_ok-total.was ∙ if-so _ _ (eq-eqb _ _ c.if-total.true)))

pub returns-then-not-goes_with : goal.returns-then-not-goes_with
unfolding max_at
returns-then-not-goes_with c = sym (ap cell_read (number-got _ _ _ _ c.u64_at.ensures.0 c.in_ok-total.was ∙ if-not _ _ (ne_eqb _ _ c.if-total.false) ∙ must-not _ _ (sym c.goes_with.ensures ∙ c.if-not-goes_with.true)))

pub returns-in_err-chunks : goal.returns-in_err-chunks
unfolding max_at
returns-in_err-chunks c =
    let p = err_from_is_err_and c.from_residual-in_err-chunks.result c.from_residual-in_err-chunks.ensures.1 in
    rw (p.1, p.2) (sym (ap cell_read (number-got _ _ _ _ c.u64_at.ensures.0 c.in_ok-total.was ∙ if-not _ _ (ne_eqb _ _ c.if-total.false) ∙ must-hold _ _ (sym c.goes_with.ensures ∙ c.if-not-goes_with.false) ∙ then-not _ (chunks-is-not (source_from c.args.lent.now c.args.frame) _ _ c.chunks_at.ensures c.in_err-chunks.was))))

pub returns : goal.returns
unfolding max_at
returns c = sym (ap cell_read (number-got _ _ _ _ c.u64_at.ensures.0 c.in_ok-total.was ∙ if-not _ _ (ne_eqb _ _ c.if-total.false) ∙ must-hold _ _ (sym c.goes_with.ensures ∙ c.if-not-goes_with.false) ∙ then-got _ (chunks-is (source_from c.args.lent.now c.args.frame) _ _ c.chunks_at.ensures c.in_ok-chunks.was).0))
