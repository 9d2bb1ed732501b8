-- `rpc::status_at` meets its contract. Assumes nothing.
use mathlib.Core.Path.{sym, ap, ◌∙◌}
use mathlib.Core.Bool.{not}
use native.Mathlib.Omega.{arith}
use Rattle.std.proofs.lemmas.Result.{err_from_is_err_and}
use Rattle.payload.proofs.CodeReads.{number-got, number-not, must-hold, must-not, below}
use Rattle.payload.specs.Answers.{number_read}
use Rattle.rpc.specs.Rpc.{status_at}
use Rattle.rpc.proofs.status_at.Goals as goal

pub returns-in_err-status : goal.returns-in_err-status
unfolding status_at
returns-in_err-status c = let p = err_from_is_err_and c.from_residual.result c.from_residual.ensures.1 in
    rw (p.1, p.2) (sym (ap number_read (number-not _ _ _ _ c.u8_at.ensures.0 c.in_err-status.was)), tt)

pub overflow_cast-status : goal.overflow_cast-status
overflow_cast-status c = omega (arith, below 1 c.u8_at.ensures.1 c.in_ok-status.was)

pub returns-then-is_encrypted : goal.returns-then-is_encrypted
unfolding status_at
returns-then-is_encrypted c = (sym (ap number_read (number-got _ _ _ _ c.u8_at.ensures.0 c.in_ok-status.was ∙ must-not _ _ (ap not (sym c.is_encrypted.ensures ∙ c.if-is_encrypted.true)))), tt)

pub returns : goal.returns
unfolding status_at
returns c = (
  sym (ap number_read (number-got _ _ _ _ c.u8_at.ensures.0 c.in_ok-status.was ∙ must-hold _ _ (ap not (sym c.is_encrypted.ensures ∙ c.if-is_encrypted.false)))),
  below 1 c.u8_at.ensures.1 c.in_ok-status.was,
)
