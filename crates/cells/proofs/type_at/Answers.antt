-- `cells::type_at` meets its contract. Assumes nothing.
use mathlib.Core.Path.{sym, ap, ◌∙◌}
use native.Mathlib.Omega.{arith}
use Rattle.std.proofs.lemmas.Result.{err_from_is_err_and}
use Rattle.payload.proofs.CodeReads.{number-got, number-not, part-got, part-not, must-hold, must-not, below}
use Rattle.cells.specs.Answers.{type_read}
use Rattle.cells.specs.Cells.{type_at}
use Rattle.cells.proofs.type_at.Goals as goal

pub returns-in_err-code : goal.returns-in_err-code
unfolding type_at
returns-in_err-code c =
    let p = err_from_is_err_and c.from_residual.result c.from_residual.ensures.1 in
    rw (p.1, p.2) (sym (ap type_read (number-not _ _ _ _ c.u8_at.ensures.0 c.in_err-code.was)))

pub overflow_cast-byte : goal.overflow_cast-byte
overflow_cast-byte c = omega (arith, below 1 c.u8_at.ensures.1 c.in_ok-code.was)

pub returns-then-not-is_code : goal.returns-then-not-is_code
unfolding type_at
returns-then-not-is_code c = sym (ap type_read (number-got _ _ _ _ c.u8_at.ensures.0 c.in_ok-code.was ∙ must-not _ _ (sym c.is_code.ensures ∙ c.if-not-is_code.true)))

pub returns-in_err-limit : goal.returns-in_err-limit
unfolding type_at
returns-in_err-limit c =
    let p = err_from_is_err_and c.from_residual-in_err-limit.result c.from_residual-in_err-limit.ensures.1 in
    rw (p.1, p.2) (sym (ap type_read (number-got _ _ _ _ c.u8_at.ensures.0 c.in_ok-code.was ∙ must-hold _ _ (sym c.is_code.ensures ∙ c.if-not-is_code.false) ∙ number-not _ _ _ _ c.length_at.ensures.0 c.in_err-limit.was)))

pub overflow_cast-most : goal.overflow_cast-most
overflow_cast-most c = omega (arith, below 2 c.length_at.ensures.1 c.in_ok-limit.was)

pub returns-then-not-is_type : goal.returns-then-not-is_type
unfolding type_at
returns-then-not-is_type c = sym (ap type_read (number-got _ _ _ _ c.u8_at.ensures.0 c.in_ok-code.was ∙ must-hold _ _ (sym c.is_code.ensures ∙ c.if-not-is_code.false) ∙ number-got _ _ _ _ c.length_at.ensures.0 c.in_ok-limit.was ∙ must-not _ _ (sym c.is_type.ensures ∙ c.if-not-is_type.true)))

pub returns-in_err-collation : goal.returns-in_err-collation
unfolding type_at
returns-in_err-collation c =
    let p = err_from_is_err_and c.from_residual-in_err-collation.result c.from_residual-in_err-collation.ensures.1 in
    rw (p.1, p.2) (sym (ap type_read (number-got _ _ _ _ c.u8_at.ensures.0 c.in_ok-code.was ∙ must-hold _ _ (sym c.is_code.ensures ∙ c.if-not-is_code.false) ∙ number-got _ _ _ _ c.length_at.ensures.0 c.in_ok-limit.was ∙ must-hold _ _ (sym c.is_type.ensures ∙ c.if-not-is_type.false) ∙ part-not _ _ _ _ (rw c.collation_size.ensures at c.part_at.ensures) c.in_err-collation.was)))

pub returns : goal.returns
unfolding type_at
returns c = sym (ap type_read (number-got _ _ _ _ c.u8_at.ensures.0 c.in_ok-code.was ∙ must-hold _ _ (sym c.is_code.ensures ∙ c.if-not-is_code.false) ∙ number-got _ _ _ _ c.length_at.ensures.0 c.in_ok-limit.was ∙ must-hold _ _ (sym c.is_type.ensures ∙ c.if-not-is_type.false) ∙ part-got _ _ _ _ (rw c.collation_size.ensures at c.part_at.ensures) c.in_ok-collation.was))
