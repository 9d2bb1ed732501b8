-- `capture_marks::put_marks` meets its contract. The loop's invariant is `Marking`. Assumes nothing.
use mathlib.Core.Path.{sym, ◌∙◌}
use native.Mathlib.Omega.{arith}
use Rattle.script.proofs.Walk
use Rattle.script.proofs.Stops.{no_record}
use Rattle.capture_marks.proofs.Marking.{marking-start, marking-all, marking-cut, marking-end, marking-room, marking-next}
use Rattle.capture_marks.proofs.put_marks.Goals as goal

pub loop-count-init : goal.loop-count-init
loop-count-init c = marking-start _ _

pub returns-in_default : goal.returns-in_default
returns-in_default c = let m = c.loop-count.invariant in
    no_record c.record_at.ensures c.in_default.not-Record (marking-cut _ _ _ _ _ _ m) (marking-end _ _ _ _ _ _ m)

pub overflow_add-at : goal.overflow_add-at
overflow_add-at c = omega (arith, (Walk.lies c.args.capture.now c.loop-count.at (sym c.record_at.ensures ∙ c.in-Record.is)))

pub slice_bounds-put_mark-start : goal.slice_bounds-put_mark-start
slice_bounds-put_mark-start c = omega (arith, (Walk.lies c.args.capture.now c.loop-count.at (sym c.record_at.ensures ∙ c.in-Record.is)))

pub slice_bounds-put_mark-end : goal.slice_bounds-put_mark-end
slice_bounds-put_mark-end c = omega (arith, (Walk.lies c.args.capture.now c.loop-count.at (sym c.record_at.ensures ∙ c.in-Record.is)))

pub put_mark-count-requires : goal.put_mark-count-requires
put_mark-count-requires c = let pre = c.requires in
    marking-room _ _ _ _ _ _ c.loop-count.invariant (sym c.record_at.ensures ∙ c.in-Record.is) (omega (arith, pre))

pub loop-count-smaller : goal.loop-count-smaller
loop-count-smaller c = omega (arith, (Walk.lies c.args.capture.now c.loop-count.at (sym c.record_at.ensures ∙ c.in-Record.is)))

pub loop-count-preserved : goal.loop-count-preserved
loop-count-preserved c = marking-next _ _ _ _ _ _ c.loop-count.invariant (sym c.record_at.ensures ∙ c.in-Record.is) c.put_mark-count.ensures.value c.put_mark-count.ensures.out_after

pub returns : goal.returns
returns c = marking-all _ _ _ _ _ _ c.loop-count.invariant (omega (arith, c.requires, c.loop-count-test.false))
