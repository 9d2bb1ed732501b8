-- `result::put_records` meets its contract. Assumes nothing.
use borrow.Enum.Refused.{opened}
use Rattle.script.proofs.Walk
use Rattle.emission.specs.Walk.{rows_after}
use Rattle.script.proofs.Stops.{stops}
use Rattle.wire.proofs.Puts.{owes-less, owes-last, place_in}
use Rattle.result.proofs.Writes.{records_left, records-more, records-cut, records-end}
use mathlib.Core.Path.{sym, ◌∙◌}
use native.Mathlib.Omega.{arith}
use Rattle.result.proofs.put_records.Goals as goal

pub loop-kind-init : goal.loop-kind-init
loop-kind-init c = (c.requires.1, c.requires.0, omega arith, λ n w. w)

pub overflow_add-next : goal.overflow_add-next
overflow_add-next c = omega (arith, (Walk.lies c.args.s.now c.loop-kind.place (sym c.record_at.ensures ∙ c.in-Record.is)))

pub slice_bounds-put_turn-start : goal.slice_bounds-put_turn-start
slice_bounds-put_turn-start c = omega (arith, (Walk.lies c.args.s.now c.loop-kind.place (sym c.record_at.ensures ∙ c.in-Record.is)))

pub slice_bounds-put_turn-end : goal.slice_bounds-put_turn-end
slice_bounds-put_turn-end c = omega (arith, (Walk.lies c.args.s.now c.loop-kind.place (sym c.record_at.ensures ∙ c.in-Record.is)))

pub put_turn-place-requires : goal.put_turn-place-requires
put_turn-place-requires c = (c.loop-kind.invariant.1, (Walk.lies c.args.s.now c.loop-kind.place (sym c.record_at.ensures ∙ c.in-Record.is)).1)

pub rows_after-rows-requires : goal.rows_after-rows-requires
rows_after-rows-requires c = omega (arith, (Walk.lies c.args.s.now c.loop-kind.place (sym c.record_at.ensures ∙ c.in-Record.is)), c.loop-kind.invariant.2)

pub loop-kind-smaller : goal.loop-kind-smaller
loop-kind-smaller c = omega (arith, (Walk.lies c.args.s.now c.loop-kind.place (sym c.record_at.ensures ∙ c.in-Record.is)), c.put_turn-place.ensures.goes.from, c.put_turn-place.ensures.goes.lies)

pub loop-kind-preserved : goal.loop-kind-preserved
loop-kind-preserved c = let l = c.loop-kind in
    let put = c.put_turn-place in
    let next = put.result in
    let g = put.ensures.goes in
    let k = c.in-Record.kind in (
      g.lies,
      place_in put.ensures.puts,
      omega (arith, (Walk.lies c.args.s.now c.loop-kind.place (sym c.record_at.ensures ∙ c.in-Record.is)), g.from, l.invariant.2, c.rows_after-rows.ensures.1),
      rw c.rows_after-rows.ensures.0
          (owes-less _ (records_left c.args.s.now c.args.«from» 0) l.w (records_left c.args.s.now c.loop-kind.place l.rows) (records_left c.args.s.now next (rows_after l.rows k)) l.invariant.3 (records-more c.args.s.now c.loop-kind.place l.rows k c.in-Record.start c.in-Record.len next (sym c.record_at.ensures ∙ c.in-Record.is) g) put.ensures.puts),
    )

pub returns-in-Cut : goal.returns-in-Cut
returns-in-Cut c = let l = c.loop-kind in
    let s = c.args.s.now in
    let last = stops c.record_at.ensures (opened c.in-Cut.in-Cut-own.keys2) (records-cut s l.place l.rows) (records-end s l.place l.rows) in
    owes-last _ _ l.w (records_left s l.place l.rows) l.invariant.3 last c.put_done.ensures
