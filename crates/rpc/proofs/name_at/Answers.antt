-- `rpc::name_at` meets its contract. Assumes nothing.
use mathlib.Core.Path.{sym, ap, ◌∙◌}
use mathlib.Core.Bool.{not}
use native.Mathlib.Omega.{arith}
use Rattle.std.proofs.lemmas.Result.{err_from_is_err_and}
use Rattle.payload.proofs.CodeReads.{number-got, number-not, must-hold, must-not, below}
use Rattle.payload.specs.Answers.{part_read}
use Rattle.rpc.specs.Rpc.{name_at}
use Rattle.rpc.proofs.name_at.Goals as goal

pub returns-in_err-units : goal.returns-in_err-units
unfolding name_at
returns-in_err-units c = let p = err_from_is_err_and c.from_residual.result c.from_residual.ensures.1 in
    rw (p.1, p.2) (sym (ap part_read (number-not _ _ _ _ c.u8_at.ensures.0 c.in_err-units.was)))

pub returns-then-begins_call : goal.returns-then-begins_call
unfolding name_at
returns-then-begins_call c = sym (ap part_read (number-got _ _ _ _ c.u8_at.ensures.0 c.in_ok-units.was ∙ must-not _ _ (ap not (sym c.begins_call.ensures ∙ c.if-begins_call.true))))

pub overflow_mul-units : goal.overflow_mul-units
overflow_mul-units c = omega (arith, below 1 c.u8_at.ensures.1 c.in_ok-units.was)

pub returns : goal.returns
unfolding name_at
returns c = c.part_at.ensures ∙ sym (ap part_read (number-got _ _ _ _ c.u8_at.ensures.0 c.in_ok-units.was ∙ must-hold _ _ (ap not (sym c.begins_call.ensures ∙ c.if-begins_call.false))))
