-- `reader::token_reader::token_at` meets its contract. Assumes nothing.
use mathlib.Core.Path.{◌≡◌, refl, sym, ap, ◌∙◌}
use native.Mathlib.Omega.{arith}
use borrow.Author.Tests.{ne_eqb}
use Prim.Native.Nat.{ℕ, ◌≤◌, ◌<◌}
use Rattle.payload.proofs.CodeReads.{number-got, number-not, if-so, if-not, below}
use Rattle.reader.proofs.CodeTokens.{handed-on}
use Rattle.reader.specs.Code.{token_read}
use Rattle.reader.specs.ReadTokens.{token_at}
use lib.Dec.{eqb}
use mathlib.Core.Bool.{true, false, ◌||◌}
use Rattle.wire.proofs.Cases.{split}
use Rattle.reader.proofs.token_reader.token_at.Goals as goal

-- the codes of ERROR and INFO stand side by side
one_of_two : (k : ℕ) → 0xAA ≤ k → k ≤ 0xAB → (eqb k 0xAA || eqb k 0xAB) ≡ true
one_of_two k h l =
    split k 0xAA
    (λ m. let e : k ≡ 0xAA = omega arith in rw e)
    (λ m. let e : k ≡ 0xAB = omega arith in rw e)

below_both : (k : ℕ) → k < 0xAA → (eqb k 0xAA || eqb k 0xAB) ≡ false
below_both k h = rw (ne_eqb k 0xAA (λ e. absurd (omega arith)), ne_eqb k 0xAB (λ e. absurd (omega arith)))

above-both : (k : ℕ) → 0xAB < k → (eqb k 0xAA || eqb k 0xAB) ≡ false
above-both k h = rw (ne_eqb k 0xAA (λ e. absurd (omega arith)), ne_eqb k 0xAB (λ e. absurd (omega arith)))

pub returns-in_err-first : goal.returns-in_err-first
unfolding token_at
returns-in_err-first c = handed-on token_read (λ n. refl) _ _ c.from_residual.ensures.1 (number-not _ _ _ _ c.u8_at.ensures.0 c.in_err-first.was)

pub overflow_cast-code : goal.overflow_cast-code
overflow_cast-code c = omega (arith, below 1 c.u8_at.ensures.1 c.in_ok-first.was)

pub returns-in-129 : goal.returns-in-129
unfolding token_at
returns-in-129 c = c.metadata_at.ensures ∙ sym (ap token_read (number-got _ _ _ _ c.u8_at.ensures.0 c.in_ok-first.was ∙ if-so _ _ (ap (λ (x : ℕ). eqb x 0x81) c.in-129.is)))

pub returns-in-209 : goal.returns-in-209
unfolding token_at
returns-in-209 c = c.row_at.ensures ∙ sym (ap token_read (number-got _ _ _ _ c.u8_at.ensures.0 c.in_ok-first.was ∙ if-not _ _ (ap (λ (x : ℕ). eqb x 0x81) c.in-209.is) ∙ if-so _ _ (ap (λ (x : ℕ). eqb x 0xD1) c.in-209.is)))

pub returns-in-253 : goal.returns-in-253
unfolding token_at
returns-in-253 c = c.done_at.ensures ∙ sym (ap token_read (number-got _ _ _ _ c.u8_at.ensures.0 c.in_ok-first.was ∙ if-not _ _ (ap (λ (x : ℕ). eqb x 0x81) c.in-253.is) ∙ if-not _ _ (ap (λ (x : ℕ). eqb x 0xD1) c.in-253.is) ∙ if-so _ _ (ap (λ (x : ℕ). eqb x 0xFD) c.in-253.is)))

pub returns-in-170 : goal.returns-in-170
unfolding token_at
returns-in-170 c = c.message_at.ensures
    ∙ sym (ap token_read (number-got _ _ _ _ c.u8_at.ensures.0 c.in_ok-first.was ∙ if-not _ _ (ne_eqb _ _ c.in-170.in_default-own.rest.0.0.1) ∙ if-not _ _ (ne_eqb _ _ c.in-170.in_default-own.rest.0.1)
    ∙ if-not _ _ (ne_eqb _ _ c.in-170.in_default-own.rest.1) ∙ if-so _ _ (one_of_two c.in_ok-first.first.value (omega arith) (omega arith))))

pub returns-in_default : goal.returns-in_default
unfolding token_at
returns-in_default c = sym (ap token_read (number-got _ _ _ _ c.u8_at.ensures.0 c.in_ok-first.was ∙ if-not _ _ (ne_eqb _ _ c.in_default.in_default-own.rest.0.0.1) ∙ if-not _ _ (ne_eqb _ _ c.in_default.in_default-own.rest.0.1)
    ∙ if-not _ _ (ne_eqb _ _ c.in_default.in_default-own.rest.1) ∙ if-not _ _ (below_both c.in_ok-first.first.value (omega arith))))

pub returns-in_default-2 : goal.returns-in_default-2
unfolding token_at
returns-in_default-2 c = sym (ap token_read (number-got _ _ _ _ c.u8_at.ensures.0 c.in_ok-first.was ∙ if-not _ _ (ne_eqb _ _ c.in_default.in_default-own.rest.0.0.1) ∙ if-not _ _ (ne_eqb _ _ c.in_default.in_default-own.rest.0.1)
    ∙ if-not _ _ (ne_eqb _ _ c.in_default.in_default-own.rest.1) ∙ if-not _ _ (above-both c.in_ok-first.first.value (omega arith))))
