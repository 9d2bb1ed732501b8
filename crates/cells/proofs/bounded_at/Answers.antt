-- `cells::bounded_at` meets its contract. Assumes nothing.
use mathlib.Core.Path.{sym, ap, ◌∙◌}
use borrow.Author.Tests.{eq-eqb, ne_eqb}
use Rattle.std.proofs.lemmas.Result.{err_from_is_err_and}
use Rattle.payload.proofs.CodeReads.{number-got, number-not, part-got, part-not, must-hold, must-not, if-so, if-not}
use Rattle.cells.specs.Answers.{cell_read}
use Rattle.cells.specs.Cells.{bounded_at}
use Rattle.cells.proofs.bounded_at.Goals as goal

pub returns-in_err-size : goal.returns-in_err-size
unfolding bounded_at
returns-in_err-size c =
    let p = err_from_is_err_and c.from_residual.result c.from_residual.ensures.1 in
    rw (p.1, p.2) (sym (ap cell_read (number-not _ _ _ _ c.u16_at.ensures.0 c.in_err-size.was)))

pub returns-then-size-eq-NULL_LENGTH : goal.returns-then-size-eq-NULL_LENGTH
unfolding bounded_at
returns-then-size-eq-NULL_LENGTH c = sym (ap cell_read (number-got _ _ _ _ c.u16_at.ensures.0 c.in_ok-size.was ∙ if-so _ _ (eq-eqb _ _ c.if-size-eq-NULL_LENGTH.true)))

pub returns-then-not-is_within : goal.returns-then-not-is_within
unfolding bounded_at
returns-then-not-is_within c = sym (ap cell_read (number-got _ _ _ _ c.u16_at.ensures.0 c.in_ok-size.was ∙ if-not _ _ (ne_eqb _ _ c.if-size-eq-NULL_LENGTH.false) ∙ must-not _ _ (sym c.is_within.ensures ∙ c.if-not-is_within.true)))

pub returns-in_err-text : goal.returns-in_err-text
unfolding bounded_at
returns-in_err-text c =
    let p = err_from_is_err_and c.from_residual-in_err-text.result c.from_residual-in_err-text.ensures.1 in
    rw (p.1, p.2) (sym (ap cell_read (number-got _ _ _ _ c.u16_at.ensures.0 c.in_ok-size.was ∙ if-not _ _ (ne_eqb _ _ c.if-size-eq-NULL_LENGTH.false) ∙ must-hold _ _ (sym c.is_within.ensures ∙ c.if-not-is_within.false) ∙ part-not _ _ _ _ c.part_at.ensures c.in_err-text.was)))

pub returns : goal.returns
unfolding bounded_at
returns c = sym (ap cell_read (number-got _ _ _ _ c.u16_at.ensures.0 c.in_ok-size.was ∙ if-not _ _ (ne_eqb _ _ c.if-size-eq-NULL_LENGTH.false) ∙ must-hold _ _ (sym c.is_within.ensures ∙ c.if-not-is_within.false) ∙ part-got _ _ _ _ c.part_at.ensures c.in_ok-text.was))
