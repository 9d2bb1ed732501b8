-- `response::lists::measure_records` meets its contract. The loop's invariant: the place is in the list, and what is left from it
-- on refuses as the whole list does and has the size that the whole has more than the size so far, as far as it counts.
-- Assumes nothing.
use Rattle.script.proofs.Walk.{lies}
use Rattle.response.proofs.Measuring.{measured-cut, measured-end, measured-bad, measured-next}
use mathlib.Core.Path.{sym, ◌∙◌}
use native.Mathlib.Omega.{arith}
use Rattle.response.proofs.lists.measure_records.Goals as goal

pub returns-in-Cut : goal.returns-in-Cut
returns-in-Cut g c = measured-cut _ _ _ _ _ c.loop-kind.invariant.1 (sym c.record_at.ensures ∙ c.in-Cut.is)

pub returns-in-End : goal.returns-in-End
returns-in-End g c = measured-end _ _ _ _ _ c.loop-kind.invariant.1 (sym c.record_at.ensures ∙ c.in-End.is)

pub overflow_add-next : goal.overflow_add-next
overflow_add-next g c = omega (arith, lies _ _ (sym c.record_at.ensures ∙ c.in-Record.is))

pub slice_bounds-payload-end : goal.slice_bounds-payload-end
slice_bounds-payload-end g c = omega (arith, lies _ _ (sym c.record_at.ensures ∙ c.in-Record.is))

pub returns-in_err-check-in-Record : goal.returns-in_err-check-in-Record
returns-in_err-check-in-Record g c = let e = sym c.record_at.ensures ∙ c.in-Record.is in
    measured-bad _ _ _ _ _ c.loop-kind.invariant.1 _ _ _ e _ _ c.from_residual.ensures.1 c.in_err-check-in-Record.ensures

pub loop-kind-smaller : goal.loop-kind-smaller
loop-kind-smaller g c = omega (arith, lies _ _ (sym c.record_at.ensures ∙ c.in-Record.is))

pub loop-kind-preserved : goal.loop-kind-preserved
loop-kind-preserved g c = let e = sym c.record_at.ensures ∙ c.in-Record.is in
    ((lies _ _ e).1, measured-next _ _ _ _ _ c.loop-kind.invariant.1 _ _ _ e c.size.result c.in_ok-check-in-Record.ensures c.size.ensures c.capped-size.ensures)
