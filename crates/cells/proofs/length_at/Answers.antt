-- `cells::length_at` meets its contract. Assumes nothing.
use mathlib.Core.Path.{sym, ◌∙◌}
use native.Mathlib.Omega.{arith}
use Rattle.payload.proofs.CodeReads.{below_more}
use Rattle.cells.proofs.CodeTypes.{width_two}
use Rattle.cells.proofs.length_at.Goals as goal

pub returns-then-length_width-eq1 : goal.returns-then-length_width-eq1
returns-then-length_width-eq1 c = let e = sym c.length_width.ensures ∙ c.if-length_width-eq1.true in
    (rw e c.u8_at.ensures.0, below_more 1 2 (omega arith) c.u8_at.result c.u8_at.ensures.1)

pub returns-else-length_width-eq1 : goal.returns-else-length_width-eq1
returns-else-length_width-eq1 c = rw (width_two _ (λ e. c.if-length_width-eq1.false (c.length_width.ensures ∙ e))) c.u16_at.ensures
