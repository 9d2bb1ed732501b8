-- `reader::token_reader::done_at` meets its contract. Assumes nothing.
use mathlib.Core.Path.{refl, sym, ap, ◌∙◌}
use native.Mathlib.Omega.{arith}
use Rattle.payload.proofs.CodeReads.{number-got, number-not, below}
use Rattle.reader.proofs.CodeTokens.{handed-on}
use Rattle.reader.specs.Code.{token_read}
use Rattle.reader.specs.ReadTokens.{done_at}
use Rattle.reader.proofs.token_reader.done_at.Goals as goal

pub returns-in_err-status : goal.returns-in_err-status
unfolding done_at
returns-in_err-status c = handed-on token_read (λ n. refl) _ _ c.from_residual.ensures.1 (number-not _ _ _ _ c.u16_at.ensures.0 c.in_err-status.was)

pub returns-in_err-command : goal.returns-in_err-command
unfolding done_at
returns-in_err-command c = handed-on token_read (λ n. refl) _ _ c.from_residual-in_err-command.ensures.1 (number-got _ _ _ _ c.u16_at.ensures.0 c.in_ok-status.was ∙ number-not _ _ _ _ c.u16_at-2.ensures.0 c.in_err-command.was)

pub overflow_cast-result : goal.overflow_cast-result
overflow_cast-result c = omega (arith, below 2 c.u16_at.ensures.1 c.in_ok-status.was)

pub overflow_cast-result-2 : goal.overflow_cast-result-2
overflow_cast-result-2 c = omega (arith, below 2 c.u16_at-2.ensures.1 c.in_ok-command.was)

pub returns-in_err-count : goal.returns-in_err-count
unfolding done_at
returns-in_err-count c = handed-on token_read (λ n. refl) _ _ c.from_residual-in_err-count.ensures.1 (number-got _ _ _ _ c.u16_at.ensures.0 c.in_ok-status.was ∙ number-got _ _ _ _ c.u16_at-2.ensures.0 c.in_ok-command.was ∙ number-not _ _ _ _ c.u64_at.ensures.0 c.in_err-count.was)

pub returns : goal.returns
unfolding done_at
returns c = sym (ap token_read (number-got _ _ _ _ c.u16_at.ensures.0 c.in_ok-status.was ∙ number-got _ _ _ _ c.u16_at-2.ensures.0 c.in_ok-command.was ∙ number-got _ _ _ _ c.u64_at.ensures.0 c.in_ok-count.was))
