-- `fit::walk_row` meets its contract. The loop's invariant: what the cells from `at` on have against the columns that are left is
-- what the row has against all its columns, and the records passed have no misfit of their own. Assumes nothing.
use borrow.Enum.Refused.{opened}
use Rattle.fit.proofs.RowTurns.{cells_cut, cells-end, cells-other, row-none, row-start, row-ended, row-chunk, row-wrong, row_next, row_room}
use Rattle.script.proofs.Stops.{stops}
use Rattle.fit.proofs.Skip.{kind-is}
use Rattle.script.proofs.Walk.{lies}
use borrow.Author.Tests.{ne_eqb, eqb-true, eqb-false}
use mathlib.Core.Path.{sym, ◌∙◌}
use native.Mathlib.Omega.{arith}
use Rattle.fit.proofs.walk_row.Goals as goal

pub returns-then-is_empty : goal.returns-then-is_empty
returns-then-is_empty c = let a = c.args in row-none a.s.now a.from a.types.now (eqb-true _ 0 (sym c.is_empty.ensures ∙ c.if-is_empty.true))

pub loop-kind-init : goal.loop-kind-init
loop-kind-init c = row-start _ _ _ (eqb-false _ 0 (sym c.is_empty.ensures ∙ c.if-is_empty.false))

pub returns-in-Cut : goal.returns-in-Cut
returns-in-Cut c = let none = stops c.record_at.ensures (opened c.in-Cut.in-Cut-own.keys1) (cells_cut _ _) (cells-end _ _) in
    row-ended _ _ _ _ _ c.loop-kind.invariant none c.row_end.ensures

pub overflow_add-next : goal.overflow_add-next
overflow_add-next c = omega (arith, lies _ _ (sym c.record_at.ensures ∙ c.in-Record.is))

pub loop-kind-smaller-then-kind-eq-CHUNK : goal.loop-kind-smaller-then-kind-eq-CHUNK
loop-kind-smaller-then-kind-eq-CHUNK c = omega (arith, lies _ _ (sym c.record_at.ensures ∙ c.in-Record.is))

pub loop-kind-preserved-then-kind-eq-CHUNK : goal.loop-kind-preserved-then-kind-eq-CHUNK
loop-kind-preserved-then-kind-eq-CHUNK c = row-chunk _ _ _ _ _ c.loop-kind.invariant (kind-is (sym c.record_at.ensures ∙ c.in-Record.is) c.if-kind-eq-CHUNK.true)

pub returns-then-kind-ne-CELL : goal.returns-then-kind-ne-CELL
returns-then-kind-ne-CELL c = row-ended _ _ _ _ _ c.loop-kind.invariant (cells-other _ _ (sym c.record_at.ensures ∙ c.in-Record.is) (ne_eqb _ _ c.if-kind-ne-CELL.true) (ne_eqb _ _ c.if-kind-eq-CHUNK.false)) c.row_end-then-kind-ne-CELL.ensures

pub slice_bounds-cell_wrong-end : goal.slice_bounds-cell_wrong-end
slice_bounds-cell_wrong-end c = omega (arith, lies _ _ (sym c.record_at.ensures ∙ c.in-Record.is))

pub returns-then-cell_wrong : goal.returns-then-cell_wrong
returns-then-cell_wrong c = row-wrong _ _ _ _ _ c.loop-kind.invariant (kind-is (sym c.record_at.ensures ∙ c.in-Record.is) c.if-kind-ne-CELL.false) c.cell_wrong.ensures c.if-cell_wrong.true

pub overflow_add-column : goal.overflow_add-column
overflow_add-column c = omega (arith, row_room _ _ _ _ _ c.loop-kind.invariant (kind-is (sym c.record_at.ensures ∙ c.in-Record.is) c.if-kind-ne-CELL.false) c.cell_wrong.ensures c.if-cell_wrong.false)

pub loop-kind-smaller : goal.loop-kind-smaller
loop-kind-smaller c = omega (arith, lies _ _ (sym c.record_at.ensures ∙ c.in-Record.is))

pub loop-kind-preserved : goal.loop-kind-preserved
loop-kind-preserved c = row_next _ _ _ _ _ c.loop-kind.invariant (kind-is (sym c.record_at.ensures ∙ c.in-Record.is) c.if-kind-ne-CELL.false) c.cell_wrong.ensures c.if-cell_wrong.false
