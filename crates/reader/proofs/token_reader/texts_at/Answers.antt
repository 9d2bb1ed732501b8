-- `reader::token_reader::texts_at` meets its contract. Assumes nothing.
use mathlib.Core.Path.{refl, sym, ap, ◌∙◌}
use native.Mathlib.Omega.{arith}
use Rattle.payload.proofs.CodeReads.{number-got, number-not, then-got, then-not, below, part-is, part-is-not}
use Rattle.reader.proofs.CodeTokens.{handed-on}
use Rattle.reader.specs.Code.{texts_read}
use Rattle.reader.specs.ReadTokens.{texts_at}
use Rattle.reader.proofs.token_reader.texts_at.Goals as goal

pub returns-in_err-message : goal.returns-in_err-message
unfolding texts_at
returns-in_err-message c = handed-on texts_read (λ n. refl) _ _ c.from_residual.ensures.1 (then-not _ (part-is-not _ c.text_at.ensures c.in_err-message.was))

pub returns-in_err-name : goal.returns-in_err-name
unfolding texts_at
returns-in_err-name c = handed-on texts_read (λ n. refl) _ _ c.from_residual-in_err-name.ensures.1 (then-got _ (part-is _ c.text_at.ensures c.in_ok-message.was) ∙ then-not _ (part-is-not _ (rw c.saturating_sub-room.ensures at c.text_at-2.ensures) c.in_err-name.was))

pub returns-in_err-last : goal.returns-in_err-last
unfolding texts_at
returns-in_err-last c = handed-on texts_read (λ n. refl) _ _ c.from_residual-in_err-last.ensures.1 (then-got _ (part-is _ c.text_at.ensures c.in_ok-message.was) ∙ then-got _ (part-is _ (rw c.saturating_sub-room.ensures at c.text_at-2.ensures) c.in_ok-name.was) ∙ then-not _ (part-is-not _ (rw (c.saturating_sub.ensures, c.saturating_sub-room.ensures) at c.text_at-3.ensures) c.in_err-last.was))

pub overflow_cast-result : goal.overflow_cast-result
overflow_cast-result c = omega (arith, below 4 c.u32_at.ensures.1 c.in_ok-line.was)

pub returns-in_err-line : goal.returns-in_err-line
unfolding texts_at
returns-in_err-line c = handed-on texts_read (λ n. refl) _ _ c.from_residual-in_err-line.ensures.1 (then-got _ (part-is _ c.text_at.ensures c.in_ok-message.was) ∙ then-got _ (part-is _ (rw c.saturating_sub-room.ensures at c.text_at-2.ensures) c.in_ok-name.was) ∙ then-got _ (part-is _ (rw (c.saturating_sub.ensures, c.saturating_sub-room.ensures) at c.text_at-3.ensures) c.in_ok-last.was) ∙ number-not _ _ _ _ c.u32_at.ensures.0 c.in_err-line.was)

pub returns : goal.returns
unfolding texts_at
returns c = sym (ap texts_read (then-got _ (part-is _ c.text_at.ensures c.in_ok-message.was) ∙ then-got _ (part-is _ (rw c.saturating_sub-room.ensures at c.text_at-2.ensures) c.in_ok-name.was) ∙ then-got _ (part-is _ (rw (c.saturating_sub.ensures, c.saturating_sub-room.ensures) at c.text_at-3.ensures) c.in_ok-last.was) ∙ number-got _ _ _ _ c.u32_at.ensures.0 c.in_ok-line.was))
