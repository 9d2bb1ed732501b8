-- `reader::token_reader::column_at` meets its contract. Assumes nothing.
use mathlib.Core.Path.{refl, sym, ap, ◌∙◌}
use native.Mathlib.Omega.{arith}
use Rattle.payload.proofs.CodeReads.{number-got, number-not, part-got, part-not, then-got, then-not, below}
use Rattle.cells.proofs.CodeReads.{type-is, type-is-not}
use Rattle.reader.proofs.CodeTokens.{handed-on}
use Rattle.reader.specs.Code.{token_read}
use Rattle.reader.specs.ReadTokens.{column_at}
use Rattle.reader.proofs.token_reader.column_at.Goals as goal

pub returns-in_err-user_type : goal.returns-in_err-user_type
unfolding column_at
returns-in_err-user_type c = handed-on token_read (λ n. refl) _ _ c.from_residual.ensures.1 (number-not _ _ _ _ c.u32_at.ensures.0 c.in_err-user_type.was)

pub returns-in_err-flags : goal.returns-in_err-flags
unfolding column_at
returns-in_err-flags c = handed-on token_read (λ n. refl) _ _ c.from_residual-in_err-flags.ensures.1 (number-got _ _ _ _ c.u32_at.ensures.0 c.in_ok-user_type.was ∙ number-not _ _ _ _ c.u16_at.ensures.0 c.in_err-flags.was)

pub returns-in_err-read : goal.returns-in_err-read
unfolding column_at
returns-in_err-read c = handed-on token_read (λ n. refl) _ _ c.from_residual-in_err-read.ensures.1 (number-got _ _ _ _ c.u32_at.ensures.0 c.in_ok-user_type.was ∙ number-got _ _ _ _ c.u16_at.ensures.0 c.in_ok-flags.was ∙ then-not _ (type-is-not _ c.type_at.ensures c.in_err-read.was))

pub returns-in_err-units : goal.returns-in_err-units
unfolding column_at
returns-in_err-units c = handed-on token_read (λ n. refl) _ _ c.from_residual-in_err-units.ensures.1 (number-got _ _ _ _ c.u32_at.ensures.0 c.in_ok-user_type.was ∙ number-got _ _ _ _ c.u16_at.ensures.0 c.in_ok-flags.was ∙ then-got _ (type-is _ c.type_at.ensures c.in_ok-read.was) ∙ number-not _ _ _ _ c.u8_at.ensures.0 c.in_err-units.was)

pub overflow_mul-units : goal.overflow_mul-units
overflow_mul-units c = omega (arith, below 1 c.u8_at.ensures.1 c.in_ok-units.was)

pub overflow_cast-result : goal.overflow_cast-result
overflow_cast-result c = omega (arith, below 4 c.u32_at.ensures.1 c.in_ok-user_type.was)

pub overflow_cast-result-2 : goal.overflow_cast-result-2
overflow_cast-result-2 c = omega (arith, below 2 c.u16_at.ensures.1 c.in_ok-flags.was)

pub returns-in_err-name : goal.returns-in_err-name
unfolding column_at
returns-in_err-name c = handed-on token_read (λ n. refl) _ _ c.from_residual-in_err-name.ensures.1 (number-got _ _ _ _ c.u32_at.ensures.0 c.in_ok-user_type.was ∙ number-got _ _ _ _ c.u16_at.ensures.0 c.in_ok-flags.was ∙ then-got _ (type-is _ c.type_at.ensures c.in_ok-read.was) ∙ number-got _ _ _ _ c.u8_at.ensures.0 c.in_ok-units.was ∙ part-not _ _ _ _ c.part_at.ensures c.in_err-name.was)

pub returns : goal.returns
unfolding column_at
returns c = sym (ap token_read (number-got _ _ _ _ c.u32_at.ensures.0 c.in_ok-user_type.was ∙ number-got _ _ _ _ c.u16_at.ensures.0 c.in_ok-flags.was ∙ then-got _ (type-is _ c.type_at.ensures c.in_ok-read.was) ∙ number-got _ _ _ _ c.u8_at.ensures.0 c.in_ok-units.was ∙ part-got _ _ _ _ c.part_at.ensures c.in_ok-name.was))
