-- `rpc::head_at` meets its contract. Assumes nothing.
use mathlib.Core.Path.{sym, ap, ◌∙◌}
use native.Mathlib.Omega.{arith}
use Rattle.std.proofs.lemmas.Result.{err_from_is_err_and}
use Rattle.payload.proofs.CodeReads.{then-got, then-not, number-got, number-not, below}
use Rattle.rpc.specs.Rpc.{head_at}
use Rattle.rpc.specs.Answers.{placed}
use Rattle.rpc.proofs.Told.{placed-told}
use Rattle.rpc.proofs.head_at.Goals as goal

pub overflow_cast-head : goal.overflow_cast-head
overflow_cast-head c = omega (arith, below 2 c.u16_at.ensures.1 c.in_ok-flags.was)

pub returns-in_err-procedure : goal.returns-in_err-procedure
unfolding head_at
returns-in_err-procedure c = let p = err_from_is_err_and c.from_residual.result c.from_residual.ensures.1 in
    rw (p.1, p.2) (sym (ap placed (then-not _ (placed-told _ c.procedure_at.ensures c.in_err-procedure.was))))

pub returns-in_err-flags : goal.returns-in_err-flags
unfolding head_at
returns-in_err-flags c = let p = err_from_is_err_and c.from_residual-in_err-flags.result c.from_residual-in_err-flags.ensures.1 in
    rw (p.1, p.2) (sym (ap placed (then-got _ (placed-told _ c.procedure_at.ensures c.in_ok-procedure.was) ∙ number-not _ _ _ _ c.u16_at.ensures.0 c.in_err-flags.was)))

pub returns : goal.returns
unfolding head_at
returns c = sym (ap placed (then-got _ (placed-told _ c.procedure_at.ensures c.in_ok-procedure.was) ∙ number-got _ _ _ _ c.u16_at.ensures.0 c.in_ok-flags.was))
