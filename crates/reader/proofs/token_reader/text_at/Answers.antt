-- `reader::token_reader::text_at` meets its contract. Assumes nothing.
use mathlib.Core.Path.{refl, sym, ap, ◌∙◌}
use native.Mathlib.Omega.{arith}
use Rattle.payload.proofs.CodeReads.{number-got, number-not, must-hold, must-not, below}
use Rattle.reader.proofs.CodeTokens.{handed-on}
use Rattle.payload.specs.Answers.{part_read}
use Rattle.reader.specs.ReadTokens.{text_at}
use Rattle.reader.proofs.token_reader.text_at.Goals as goal

pub returns-in_err-units : goal.returns-in_err-units
unfolding text_at
returns-in_err-units c = handed-on part_read (λ n. refl) _ _ c.from_residual.ensures.1 (number-not _ _ _ _ c.units_at.ensures.0 c.in_err-units.was)

pub overflow_mul-len : goal.overflow_mul-len
overflow_mul-len c = omega (arith, below 2 c.units_at.ensures.1 c.in_ok-units.was)

pub returns-then-not-leaves : goal.returns-then-not-leaves
unfolding text_at
returns-then-not-leaves c = sym (ap part_read (number-got _ _ _ _ c.units_at.ensures.0 c.in_ok-units.was ∙ must-not _ _ (sym c.leaves.ensures ∙ c.if-not-leaves.true)))

pub returns : goal.returns
unfolding text_at
returns c = c.part_at.ensures ∙ sym (ap part_read (number-got _ _ _ _ c.units_at.ensures.0 c.in_ok-units.was ∙ must-hold _ _ (sym c.leaves.ensures ∙ c.if-not-leaves.false)))
