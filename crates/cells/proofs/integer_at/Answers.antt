-- `cells::integer_at` meets its contract. Assumes nothing.
use mathlib.Core.Path.{sym, ap, ◌∙◌}
use lib.IntN.{ℤ}
use borrow.Author.Rules.{rules}
use borrow.Author.Tests.{eq-eqb, ne_eqb}
use Rattle.std.specs.Prelude.{Ok}
use Rattle.std.proofs.lemmas.Result.{err_from_is_err_and}
use Rattle.payload.proofs.CodeReads.{number-got, number-not, must-hold, must-not, if-so, if-not, below}
use Rattle.cells.specs.declared.Value.TheVariants as value
use Rattle.cells.specs.Answers.{cell_read}
use Rattle.cells.specs.Cells.{integer_at}
use Rattle.cells.proofs.integer_at.Goals as goal

pub returns-in_err-size : goal.returns-in_err-size
unfolding integer_at
returns-in_err-size c =
    let p = err_from_is_err_and c.from_residual.result c.from_residual.ensures.1 in
    rw (p.1, p.2) (sym (ap cell_read (number-not _ _ _ _ c.u8_at.ensures.0 c.in_err-size.was)))

pub returns-then-size-eq0 : goal.returns-then-size-eq0
unfolding integer_at
returns-then-size-eq0 c = sym (ap cell_read (number-got _ _ _ _ c.u8_at.ensures.0 c.in_ok-size.was ∙ if-so _ _ (eq-eqb _ _ c.if-size-eq0.true)))

pub returns-then-size-limit : goal.returns-then-size-limit
unfolding integer_at
returns-then-size-limit c = sym (ap cell_read (number-got _ _ _ _ c.u8_at.ensures.0 c.in_ok-size.was ∙ if-not _ _ (ne_eqb _ _ c.if-size-eq0.false) ∙ must-not _ _ (ne_eqb _ _ c.if-size-limit.true)))

pub integer_number_at-requires : goal.integer_number_at-requires
integer_number_at-requires c = rw c.if-size-limit.false c.requires

pub returns-in_err-number : goal.returns-in_err-number
unfolding integer_at
returns-in_err-number c =
    let p = err_from_is_err_and c.from_residual-in_err-number.result c.from_residual-in_err-number.ensures.1 in
    rw (p.1, p.2) (sym (ap cell_read (number-got _ _ _ _ c.u8_at.ensures.0 c.in_ok-size.was ∙ if-not _ _ (ne_eqb _ _ c.if-size-eq0.false) ∙ must-hold _ _ (eq-eqb _ _ c.if-size-limit.false) ∙ number-not _ _ _ _ c.integer_number_at.ensures.0 c.in_err-number.was)))

pub signed_number-requires : goal.signed_number-requires
signed_number-requires c = (rw c.if-size-limit.false c.requires, below _ c.integer_number_at.ensures.1 c.in_ok-number.was)

pub returns : goal.returns
unfolding integer_at
returns c =
    ap (λ (z : ℤ). Ok (record { value = value.Number z; next = c.in_ok-number.number.next })) (search rules ∙ c.signed_number.ensures)
    ∙ sym (ap cell_read (number-got _ _ _ _ c.u8_at.ensures.0 c.in_ok-size.was ∙ if-not _ _ (ne_eqb _ _ c.if-size-eq0.false) ∙ must-hold _ _ (eq-eqb _ _ c.if-size-limit.false) ∙ number-got _ _ _ _ c.integer_number_at.ensures.0 c.in_ok-number.was))
