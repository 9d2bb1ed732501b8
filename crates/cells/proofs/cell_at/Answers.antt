-- `cells::cell_at` meets its contract. Assumes nothing.
use mathlib.Core.Path.{sym, ap, ◌∙◌}
use Prim.Native.Nat.{ℕ}
use borrow.Author.Tests.{eq-eqb, ne_eqb}
use Rattle.payload.proofs.CodeReads.{must-hold, must-not, if-so, if-not}
use Rattle.cells.specs.Answers.{cell_read}
use Rattle.cells.specs.Cells.{is_type, cell_at}
use Rattle.cells.proofs.cell_at.Goals as goal

pub returns-then-not-is_type : goal.returns-then-not-is_type
unfolding cell_at
returns-then-not-is_type c = sym (ap cell_read (must-not _ _
    (ap (λ (k : ℕ). is_type k c.args.limit) c.if-code-eq-INTN.true ∙ sym c.is_type.ensures ∙ c.if-not-is_type.true)))

pub integer_at-requires : goal.integer_at-requires
integer_at-requires c = sym c.is_type.ensures ∙ c.if-not-is_type.false

pub returns-then-code-eq-INTN : goal.returns-then-code-eq-INTN
unfolding cell_at
returns-then-code-eq-INTN c = c.integer_at.ensures
    ∙ sym (ap cell_read (must-hold _ _
    (ap (λ (k : ℕ). is_type k c.args.limit) c.if-code-eq-INTN.true ∙ sym c.is_type.ensures ∙ c.if-not-is_type.false)
    ∙ if-so _ _ (eq-eqb _ _ c.if-code-eq-INTN.true)))

pub returns-then-not-is_type-2 : goal.returns-then-not-is_type-2
unfolding cell_at
returns-then-not-is_type-2 c = sym (ap cell_read (must-not _ _
    (ap (λ (k : ℕ). is_type c.args.code k) c.if-limit-eq-MAX.true ∙ sym c.is_type-then-limit-eq-MAX.ensures ∙ c.if-not-is_type-2.true)))

pub returns-then-limit-eq-MAX : goal.returns-then-limit-eq-MAX
unfolding cell_at
returns-then-limit-eq-MAX c = c.max_at.ensures
    ∙ sym (ap cell_read (must-hold _ _
    (ap (λ (k : ℕ). is_type c.args.code k) c.if-limit-eq-MAX.true ∙ sym c.is_type-then-limit-eq-MAX.ensures ∙ c.if-not-is_type-2.false)
    ∙ if-not _ _ (ne_eqb _ _ c.if-code-eq-INTN.false) ∙ if-so _ _ (eq-eqb _ _ c.if-limit-eq-MAX.true)))

pub returns-then-not-is_type-3 : goal.returns-then-not-is_type-3
unfolding cell_at
returns-then-not-is_type-3 c = sym (ap cell_read (must-not _ _ (sym c.is_type-2.ensures ∙ c.if-not-is_type-3.true)))

pub returns : goal.returns
unfolding cell_at
returns c = c.bounded_at.ensures
    ∙ sym (ap cell_read (must-hold _ _ (sym c.is_type-2.ensures ∙ c.if-not-is_type-3.false)
    ∙ if-not _ _ (ne_eqb _ _ c.if-code-eq-INTN.false) ∙ if-not _ _ (ne_eqb _ _ c.if-limit-eq-MAX.false)))
