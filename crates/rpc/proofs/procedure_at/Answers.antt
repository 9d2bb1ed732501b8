-- `rpc::procedure_at` meets its contract. Assumes nothing.
use mathlib.Core.Path.{sym, ap, ◌∙◌}
use native.Mathlib.Omega.{arith}
use borrow.Author.Tests.{eq-eqb, ne_eqb}
use Rattle.std.proofs.lemmas.Result.{err_from_is_err_and}
use Rattle.payload.proofs.CodeReads.{number-got, number-not, part-got, part-not, if-so, if-not, below}
use Rattle.rpc.specs.Rpc.{procedure_at}
use Rattle.rpc.specs.Answers.{placed}
use Rattle.rpc.proofs.procedure_at.Goals as goal

pub returns-in_err-units : goal.returns-in_err-units
unfolding procedure_at
returns-in_err-units c = let p = err_from_is_err_and c.from_residual.result c.from_residual.ensures.1 in
    rw (p.1, p.2) (sym (ap placed (number-not _ _ _ _ c.u16_at.ensures.0 c.in_err-units.was)))

pub overflow_cast-result : goal.overflow_cast-result
overflow_cast-result c = omega (arith, below 2 c.u16_at-then-units-eq-BY_NUMBER.ensures.1 c.in_ok-number.was)

pub returns-in_err-number : goal.returns-in_err-number
unfolding procedure_at
returns-in_err-number c = let p = err_from_is_err_and c.from_residual-in_err-number.result c.from_residual-in_err-number.ensures.1 in
    rw (p.1, p.2) (sym (ap placed (number-got _ _ _ _ c.u16_at.ensures.0 c.in_ok-units.was ∙ if-so _ _ (eq-eqb _ _ c.if-units-eq-BY_NUMBER.true) ∙ number-not _ _ _ _ c.u16_at-then-units-eq-BY_NUMBER.ensures.0 c.in_err-number.was)))

pub returns-then-units-eq-BY_NUMBER : goal.returns-then-units-eq-BY_NUMBER
unfolding procedure_at
returns-then-units-eq-BY_NUMBER c =
    sym (ap placed (number-got _ _ _ _ c.u16_at.ensures.0 c.in_ok-units.was ∙ if-so _ _ (eq-eqb _ _ c.if-units-eq-BY_NUMBER.true) ∙ number-got _ _ _ _ c.u16_at-then-units-eq-BY_NUMBER.ensures.0 c.in_ok-number.was))

pub overflow_mul-units : goal.overflow_mul-units
overflow_mul-units c = omega (arith, below 2 c.u16_at.ensures.1 c.in_ok-units.was)

pub returns-in_err-name : goal.returns-in_err-name
unfolding procedure_at
returns-in_err-name c = let p = err_from_is_err_and c.from_residual-in_err-name.result c.from_residual-in_err-name.ensures.1 in
    rw (p.1, p.2) (sym (ap placed (number-got _ _ _ _ c.u16_at.ensures.0 c.in_ok-units.was ∙ if-not _ _ (ne_eqb _ _ c.if-units-eq-BY_NUMBER.false) ∙ part-not _ _ _ _ c.part_at.ensures c.in_err-name.was)))

pub returns : goal.returns
unfolding procedure_at
returns c = sym (ap placed (number-got _ _ _ _ c.u16_at.ensures.0 c.in_ok-units.was ∙ if-not _ _ (ne_eqb _ _ c.if-units-eq-BY_NUMBER.false) ∙ part-got _ _ _ _ c.part_at.ensures c.in_ok-name.was))
