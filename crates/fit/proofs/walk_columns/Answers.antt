-- `fit::walk_columns` meets its contract. The loop's invariant: the types of the set's columns are those put down and those still to
-- come, and the records passed have no misfit of their own. Assumes nothing.
use borrow.Enum.Refused.{opened}
use Rattle.fit.proofs.ColumnTurns.{columns-start, columns-cut, columns-end, columns-other, columns-ended, columns-many, columns-next}
use Rattle.script.proofs.Stops.{stops}
use Rattle.fit.proofs.Skip.{kind-is}
use Rattle.script.proofs.Walk.{lies}
use borrow.Author.Tests.{ne_eqb}
use mathlib.Core.Path.{sym, ◌∙◌}
use native.Mathlib.Omega.{arith}
use Rattle.fit.proofs.walk_columns.Goals as goal

pub loop-kind-init : goal.loop-kind-init
loop-kind-init c = columns-start _ _ c.args.types.now c.requires

pub returns-in-Cut : goal.returns-in-Cut
returns-in-Cut c = columns-ended _ _ _ _ _ c.loop-kind.invariant (stops c.record_at.ensures (opened c.in-Cut.in-Cut-own.keys1) (columns-cut _ _) (columns-end _ _))

pub returns-then-kind-ne-COLUMN : goal.returns-then-kind-ne-COLUMN
returns-then-kind-ne-COLUMN c = columns-ended _ _ _ _ _ c.loop-kind.invariant (columns-other _ _ (sym c.record_at.ensures ∙ c.in-Record.is) (ne_eqb _ _ c.if-kind-ne-COLUMN.true))

pub returns-then-count-ge-MOST_COLUMNS : goal.returns-then-count-ge-MOST_COLUMNS
returns-then-count-ge-MOST_COLUMNS c = columns-many _ _ _ _ _ c.loop-kind.invariant (kind-is (sym c.record_at.ensures ∙ c.in-Record.is) c.if-kind-ne-COLUMN.false) (omega (arith, c.if-count-ge-MOST_COLUMNS.true))

pub overflow_add-next : goal.overflow_add-next
overflow_add-next c = omega (arith, lies _ _ (sym c.record_at.ensures ∙ c.in-Record.is))

pub slice_bounds-get_u8-start : goal.slice_bounds-get_u8-start
slice_bounds-get_u8-start c = omega (arith, lies _ _ (sym c.record_at.ensures ∙ c.in-Record.is))

pub slice_bounds-get_u8-end : goal.slice_bounds-get_u8-end
slice_bounds-get_u8-end c = omega (arith, lies _ _ (sym c.record_at.ensures ∙ c.in-Record.is))

pub bounds-types-count : goal.bounds-types-count
bounds-types-count c = omega (arith, c.if-count-ge-MOST_COLUMNS.false)

pub overflow_add-count : goal.overflow_add-count
overflow_add-count c = omega (arith, c.if-count-ge-MOST_COLUMNS.false)

pub loop-kind-smaller : goal.loop-kind-smaller
loop-kind-smaller c = omega (arith, lies _ _ (sym c.record_at.ensures ∙ c.in-Record.is))

pub loop-kind-preserved : goal.loop-kind-preserved
loop-kind-preserved c = columns-next _ _ _ _ _ c.loop-kind.invariant (kind-is (sym c.record_at.ensures ∙ c.in-Record.is) c.if-kind-ne-COLUMN.false) (omega (arith, c.if-count-ge-MOST_COLUMNS.false)) c.get_u8.ensures
