-- `fit::walk_rows` meets its contract. The loop's invariant: the misfits of the records from `at` on are those from the first place on.
-- Assumes nothing.
use borrow.Enum.Refused.{opened}
use Rattle.fit.proofs.SetTurns.{sets-cut, sets_end_lem, sets-next, rows_start, rows-ended, rows_other, rows-wrong, rows_next, rows-onward}
use Rattle.script.proofs.Stops.{stops}
use Rattle.fit.proofs.Skip.{kind-is}
use Rattle.script.proofs.Walk.{lies}
use borrow.Author.Tests.{ne_eqb}
use mathlib.Core.Path.{sym, ◌∙◌}
use native.Mathlib.Omega.{arith}
use Rattle.fit.proofs.walk_rows.Goals as goal

pub loop-kind-init : goal.loop-kind-init
loop-kind-init c = rows_start _ _ _ _

pub returns-in-Cut : goal.returns-in-Cut
returns-in-Cut c = rows-ended _ _ _ _ _ _ c.loop-kind.invariant (stops c.record_at.ensures (opened c.in-Cut.in-Cut-own.keys1) (sets-cut _ _ _ _ _) (sets_end_lem _ _ _ _ _))

pub overflow_add-next : goal.overflow_add-next
overflow_add-next c = omega (arith, lies _ _ (sym c.record_at.ensures ∙ c.in-Record.is))

pub returns-then-kind-eq-SET : goal.returns-then-kind-eq-SET
returns-then-kind-eq-SET c = rows-ended _ _ _ _ _ _ c.loop-kind.invariant (sets-next _ _ _ _ _ (kind-is (sym c.record_at.ensures ∙ c.in-Record.is) c.if-kind-eq-SET.true))

pub loop-kind-smaller-then-kind-ne-ROW : goal.loop-kind-smaller-then-kind-ne-ROW
loop-kind-smaller-then-kind-ne-ROW c = omega (arith, lies _ _ (sym c.record_at.ensures ∙ c.in-Record.is))

pub loop-kind-preserved-then-kind-ne-ROW : goal.loop-kind-preserved-then-kind-ne-ROW
loop-kind-preserved-then-kind-ne-ROW c = rows_other _ _ _ _ _ _ c.loop-kind.invariant (sym c.record_at.ensures ∙ c.in-Record.is) (ne_eqb _ _ c.if-kind-eq-SET.false) (ne_eqb _ _ c.if-kind-ne-ROW.true)

pub returns-in-Err : goal.returns-in-Err
returns-in-Err c = rows-wrong _ _ _ _ _ _ c.loop-kind.invariant (kind-is (sym c.record_at.ensures ∙ c.in-Record.is) c.if-kind-ne-ROW.false) c.walk_row.ensures c.in-Err.is

pub overflow_add-row : goal.overflow_add-row
overflow_add-row c = omega (arith, lies _ _ (sym c.record_at.ensures ∙ c.in-Record.is))

pub loop-kind-smaller : goal.loop-kind-smaller
loop-kind-smaller c = omega (arith, lies _ _ (sym c.record_at.ensures ∙ c.in-Record.is), rows-onward _ _ _ _ _ _ c.loop-kind.invariant (kind-is (sym c.record_at.ensures ∙ c.in-Record.is) c.if-kind-ne-ROW.false) c.walk_row.ensures c.in-Ok.is)

pub loop-kind-preserved : goal.loop-kind-preserved
loop-kind-preserved c = rows_next _ _ _ _ _ _ c.loop-kind.invariant (kind-is (sym c.record_at.ensures ∙ c.in-Record.is) c.if-kind-ne-ROW.false) c.walk_row.ensures c.in-Ok.is
