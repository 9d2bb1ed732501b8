-- `result::put_pieces` meets its contract. Assumes nothing.
use mathlib.Core.Path.{sym, ◌∙◌}
use native.Mathlib.Omega.{arith}
use borrow.Enum.Refused.{opened}
use Rattle.script.proofs.Walk
use Rattle.script.proofs.Stops.{stops}
use Rattle.emission.proofs.Replies.{walked-first, walked-cut, walked_end}
use Rattle.result.proofs.Writes.{put-none}
use Rattle.result.proofs.put_pieces.Goals as goal

pub overflow_add-next : goal.overflow_add-next
overflow_add-next c = omega (arith, (Walk.lies c.args.s.now 0 (sym c.record_at.ensures ∙ c.in-Record.is)))

pub slice_bounds-put_sets-start : goal.slice_bounds-put_sets-start
slice_bounds-put_sets-start c = omega (arith, (Walk.lies c.args.s.now 0 (sym c.record_at.ensures ∙ c.in-Record.is)))

pub slice_bounds-put_sets-end : goal.slice_bounds-put_sets-end
slice_bounds-put_sets-end c = omega (arith, (Walk.lies c.args.s.now 0 (sym c.record_at.ensures ∙ c.in-Record.is)))

pub put_sets-requires : goal.put_sets-requires
put_sets-requires c = (c.requires, (Walk.lies c.args.s.now 0 (sym c.record_at.ensures ∙ c.in-Record.is)).1)

pub returns-in-Record : goal.returns-in-Record
returns-in-Record c = rw (walked-first c.args.s.now _ c.in-Record.start c.in-Record.len (sym c.record_at.ensures ∙ c.in-Record.is)) c.put_sets.ensures

pub returns-in-Cut : goal.returns-in-Cut
returns-in-Cut c = let a = c.args in
    let none = stops c.record_at.ensures (opened c.in-Cut.in-Cut-own.keys2) (walked-cut a.s.now) (walked_end a.s.now) in
    rw none (put-none a.w.now c.requires)
