-- `reader::token_reader::message_at` meets its contract. Assumes nothing.
use mathlib.Core.Path.{refl, sym, ap, ◌∙◌}
use native.Mathlib.Omega.{arith}
use borrow.Author.Tests.{leb-true}
use Prim.Native.Nat.{◌≤◌}
use Rattle.payload.proofs.CodeReads.{number-got, number-not, must-hold, must-not, then-got, then-not, below}
use Rattle.reader.proofs.CodeTokens.{handed-on, texts-is, texts-is-not}
use Rattle.reader.specs.Code.{token_read}
use Rattle.reader.specs.ReadTokens.{message_at}
use Rattle.cells.proofs.Types.{both}
use Rattle.reader.proofs.token_reader.message_at.Goals as goal

pub returns-in_err-size : goal.returns-in_err-size
unfolding message_at
returns-in_err-size c = handed-on token_read (λ n. refl) _ _ c.from_residual.ensures.1 (number-not _ _ _ _ c.u16_at.ensures.0 c.in_err-size.was)

pub returns-then-not-is_message_length : goal.returns-then-not-is_message_length
unfolding message_at
returns-then-not-is_message_length c = sym (ap token_read (number-got _ _ _ _ c.u16_at.ensures.0 c.in_ok-size.was ∙ must-not _ _ (sym c.is_message_length.ensures ∙ c.if-not-is_message_length.true)))

pub returns-in_err-number : goal.returns-in_err-number
unfolding message_at
returns-in_err-number c = handed-on token_read (λ n. refl) _ _ c.from_residual-in_err-number.ensures.1 (number-got _ _ _ _ c.u16_at.ensures.0 c.in_ok-size.was ∙ must-hold _ _ (sym c.is_message_length.ensures ∙ c.if-not-is_message_length.false) ∙ number-not _ _ _ _ c.u32_at.ensures.0 c.in_err-number.was)

pub returns-in_err-state : goal.returns-in_err-state
unfolding message_at
returns-in_err-state c = handed-on token_read (λ n. refl) _ _ c.from_residual-in_err-state.ensures.1 (number-got _ _ _ _ c.u16_at.ensures.0 c.in_ok-size.was ∙ must-hold _ _ (sym c.is_message_length.ensures ∙ c.if-not-is_message_length.false) ∙ number-got _ _ _ _ c.u32_at.ensures.0 c.in_ok-number.was ∙ number-not _ _ _ _ c.u8_at.ensures.0 c.in_err-state.was)

pub returns-in_err-class : goal.returns-in_err-class
unfolding message_at
returns-in_err-class c = handed-on token_read (λ n. refl) _ _ c.from_residual-in_err-class.ensures.1 (number-got _ _ _ _ c.u16_at.ensures.0 c.in_ok-size.was ∙ must-hold _ _ (sym c.is_message_length.ensures ∙ c.if-not-is_message_length.false) ∙ number-got _ _ _ _ c.u32_at.ensures.0 c.in_ok-number.was ∙ number-got _ _ _ _ c.u8_at.ensures.0 c.in_ok-state.was ∙ number-not _ _ _ _ c.u8_at-2.ensures.0 c.in_err-class.was)

pub overflow_sub-length : goal.overflow_sub-length
overflow_sub-length c = let h : 14 ≤ c.in_ok-size.size.value = leb-true 14 _ (both _ _ (sym c.is_message_length.ensures ∙ c.if-not-is_message_length.false)).0 in omega arith

pub overflow_cast-result : goal.overflow_cast-result
overflow_cast-result c = omega (arith, below 4 c.u32_at.ensures.1 c.in_ok-number.was)

pub overflow_cast-result-2 : goal.overflow_cast-result-2
overflow_cast-result-2 c = omega (arith, below 1 c.u8_at.ensures.1 c.in_ok-state.was)

pub overflow_cast-result-3 : goal.overflow_cast-result-3
overflow_cast-result-3 c = omega (arith, below 1 c.u8_at-2.ensures.1 c.in_ok-class.was)

pub returns-in_err-read : goal.returns-in_err-read
unfolding message_at
returns-in_err-read c = handed-on token_read (λ n. refl) _ _ c.from_residual-in_err-read.ensures.1 (number-got _ _ _ _ c.u16_at.ensures.0 c.in_ok-size.was ∙ must-hold _ _ (sym c.is_message_length.ensures ∙ c.if-not-is_message_length.false) ∙ number-got _ _ _ _ c.u32_at.ensures.0 c.in_ok-number.was ∙ number-got _ _ _ _ c.u8_at.ensures.0 c.in_ok-state.was ∙ number-got _ _ _ _ c.u8_at-2.ensures.0 c.in_ok-class.was ∙ then-not _ (texts-is-not _ c.in_err-read.ensures))

pub returns : goal.returns
unfolding message_at
returns c = sym (ap token_read (number-got _ _ _ _ c.u16_at.ensures.0 c.in_ok-size.was ∙ must-hold _ _ (sym c.is_message_length.ensures ∙ c.if-not-is_message_length.false) ∙ number-got _ _ _ _ c.u32_at.ensures.0 c.in_ok-number.was ∙ number-got _ _ _ _ c.u8_at.ensures.0 c.in_ok-state.was ∙ number-got _ _ _ _ c.u8_at-2.ensures.0 c.in_ok-class.was ∙ then-got _ (texts-is _ c.in_ok-read.ensures)))
