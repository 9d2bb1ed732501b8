-- `capture_marks::count_marks` meets its contract. The loop's invariant is `Counting`. Assumes nothing.
use mathlib.Core.Path.{refl, sym, ◌∙◌}
use mathlib.Core.Bool.{true, false}
use native.Mathlib.Omega.{arith}
use Rattle.script.proofs.Walk
use Rattle.capture_marks.proofs.Counting.{counting-start, counting-cut, counting-end, counting-kind, counting-next}
use Rattle.capture_marks.proofs.count_marks.Goals as goal

pub loop-kind-init : goal.loop-kind-init
loop-kind-init c = counting-start _

pub returns-in-Cut : goal.returns-in-Cut
returns-in-Cut c = counting-cut _ _ _ c.loop-kind.invariant (sym c.record_at.ensures ∙ c.in-Cut.is)

pub returns-in-End : goal.returns-in-End
returns-in-End c = counting-end _ _ _ c.loop-kind.invariant (sym c.record_at.ensures ∙ c.in-End.is)

pub returns-then-kind-ne-REQUEST_BODY : goal.returns-then-kind-ne-REQUEST_BODY
returns-then-kind-ne-REQUEST_BODY c = counting-kind _ _ _ c.loop-kind.invariant (sym c.record_at.ensures ∙ c.in-Record.is) c.if-kind-ne-REQUEST_BODY.true

pub overflow_add-at : goal.overflow_add-at
overflow_add-at c = omega (arith, (Walk.lies c.args.capture.now c.loop-kind.at (sym c.record_at.ensures ∙ c.in-Record.is)))

pub slice_bounds-is_marked-start : goal.slice_bounds-is_marked-start
slice_bounds-is_marked-start c = omega (arith, (Walk.lies c.args.capture.now c.loop-kind.at (sym c.record_at.ensures ∙ c.in-Record.is)))

pub slice_bounds-is_marked-end : goal.slice_bounds-is_marked-end
slice_bounds-is_marked-end c = omega (arith, (Walk.lies c.args.capture.now c.loop-kind.at (sym c.record_at.ensures ∙ c.in-Record.is)))

pub loop-kind-smaller-then-is_marked : goal.loop-kind-smaller-then-is_marked
loop-kind-smaller-then-is_marked c = omega (arith, (Walk.lies c.args.capture.now c.loop-kind.at (sym c.record_at.ensures ∙ c.in-Record.is)))

pub loop-kind-preserved-then-is_marked : goal.loop-kind-preserved-then-is_marked
loop-kind-preserved-then-is_marked c = (counting-next _ _ _ c.loop-kind.invariant (sym c.record_at.ensures ∙ c.in-Record.is) c.if-kind-ne-REQUEST_BODY.false true (sym c.is_marked.ensures ∙ c.if-is_marked.true) refl)

pub loop-kind-smaller : goal.loop-kind-smaller
loop-kind-smaller c = omega (arith, (Walk.lies c.args.capture.now c.loop-kind.at (sym c.record_at.ensures ∙ c.in-Record.is)))

pub loop-kind-preserved : goal.loop-kind-preserved
loop-kind-preserved c = (counting-next _ _ _ c.loop-kind.invariant (sym c.record_at.ensures ∙ c.in-Record.is) c.if-kind-ne-REQUEST_BODY.false false (sym c.is_marked.ensures ∙ c.if-is_marked.false) (omega arith))
