-- `emission::sizes_from` meets its contract. Assumes nothing.
use Rattle.std.proofs.lemmas.Result.{err_from_is_err_and}
use Rattle.script.proofs.Walk
use Rattle.emission.proofs.Sizes.{cap-small}
use Rattle.script.proofs.Stops.{no_record}
use Rattle.emission.proofs.Walks.{left-bad, left-fault, left-size, left_cut, left_end, end-fault, end-size}
use mathlib.Core.Path.{refl, sym, ◌∙◌}
use native.Mathlib.Omega.{arith}
use Rattle.emission.proofs.sizes_from.Goals as goal

pub loop-kind-init : goal.loop-kind-init
loop-kind-init c = (c.requires.0, refl, refl, c.requires.1)

pub overflow_add-next : goal.overflow_add-next
overflow_add-next c = omega (arith, (Walk.lies c.args.s.now c.loop-kind.place (sym c.record_at.ensures ∙ c.in-Record.is)))

pub slice_bounds-turn_at-start : goal.slice_bounds-turn_at-start
slice_bounds-turn_at-start c = omega (arith, (Walk.lies c.args.s.now c.loop-kind.place (sym c.record_at.ensures ∙ c.in-Record.is)))

pub slice_bounds-turn_at-end : goal.slice_bounds-turn_at-end
slice_bounds-turn_at-end c = omega (arith, (Walk.lies c.args.s.now c.loop-kind.place (sym c.record_at.ensures ∙ c.in-Record.is)))

pub turn_at-requires : goal.turn_at-requires
turn_at-requires c = (Walk.lies c.args.s.now c.loop-kind.place (sym c.record_at.ensures ∙ c.in-Record.is)).1

pub returns-in_err-turn : goal.returns-in_err-turn
returns-in_err-turn c =
    let p = err_from_is_err_and c.from_residual.result c.from_residual.ensures.1 in
    let r = c.in_err-turn.field-0.0 in
    let e = left-bad c.args.s.now c.loop-kind.place _ c.in-Record.start c.in-Record.len (sym c.record_at.ensures ∙ c.in-Record.is) r c.in_err-turn.ensures in
    rw (p.1, p.2) (record { fault = sym e ∙ c.loop-kind.invariant.1; size = tt })

pub added-size-requires : goal.added-size-requires
added-size-requires c = (c.loop-kind.invariant.3, rw c.in_ok-turn.ensures.turn.size (cap-small _))

pub loop-kind-smaller : goal.loop-kind-smaller
loop-kind-smaller c = omega (arith, (Walk.lies c.args.s.now c.loop-kind.place (sym c.record_at.ensures ∙ c.in-Record.is)), c.in_ok-turn.ensures.turn.goes.from, c.in_ok-turn.ensures.turn.goes.lies)

pub loop-kind-preserved : goal.loop-kind-preserved
loop-kind-preserved c = let t = c.in_ok-turn in
    let old = c.loop-kind.invariant in (
      t.ensures.turn.goes.lies,
      sym (left-fault c.args.s.now c.loop-kind.place _ c.in-Record.start c.in-Record.len (sym c.record_at.ensures ∙ c.in-Record.is) t.turn t.ensures) ∙ old.1,
      rw c.added-size.ensures (left-size c.args.s.now c.loop-kind.place _ c.in-Record.start c.in-Record.len (sym c.record_at.ensures ∙ c.in-Record.is) t.turn t.ensures c.loop-kind.size ∙ old.2),
      rw c.added-size.ensures (cap-small _),
    )

pub returns : goal.returns
returns c = let l = c.loop-kind in
    let s = c.args.s.now in
    let e = no_record c.record_at.ensures c.in_default.not-Record (left_cut s l.place) (left_end s l.place) in
    record { fault = end-fault s l.place e ∙ l.invariant.1; size = c.grown.ensures ∙ end-size s l.place e l.size ∙ l.invariant.2 }
