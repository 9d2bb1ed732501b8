-- `emission::error_in` meets its contract. The loop's invariant: the error of the records from `place` on is that from `at` on.
-- Assumes nothing.
use Rattle.script.proofs.Walk
use Rattle.script.proofs.Stops.{no_record}
use Rattle.emission.proofs.Walks.{error-here, error-none, error-later, error-cut, error-end}
use mathlib.Core.Path.{refl, sym, ◌∙◌}
use native.Mathlib.Omega.{arith}
use Rattle.emission.proofs.error_in.Goals as goal

pub loop-k-init : goal.loop-k-init
loop-k-init c = (refl, refl)

pub returns-then-k-kind : goal.returns-then-k-kind
returns-then-k-kind c = let e = error-here c.args.s.now _ c.loop-k.place c.in-Record.start c.in-Record.len (sym c.record_at.ensures ∙ c.in-Record.is) c.if-k-kind.true in
    let i = c.loop-k.invariant in
    record { value = sym e.0 ∙ i.0; result_value = sym e.1 ∙ i.1 }

pub returns-then-not-k : goal.returns-then-not-k
returns-then-not-k c = let e = error-none c.args.s.now _ c.loop-k.place c.in-Record.start c.in-Record.len (sym c.record_at.ensures ∙ c.in-Record.is) c.if-k-kind.false c.if-not-k.true in
    let i = c.loop-k.invariant in
    record { value = sym e.0 ∙ i.0; result_value = sym e.1 ∙ i.1 }

pub overflow_add-place : goal.overflow_add-place
overflow_add-place c = omega (arith, (Walk.lies c.args.s.now c.loop-k.place (sym c.record_at.ensures ∙ c.in-Record.is)))

pub loop-k-smaller : goal.loop-k-smaller
loop-k-smaller c = omega (arith, (Walk.lies c.args.s.now c.loop-k.place (sym c.record_at.ensures ∙ c.in-Record.is)))

pub loop-k-preserved : goal.loop-k-preserved
loop-k-preserved c = let e = error-later c.args.s.now _ c.loop-k.place c.in-Record.start c.in-Record.len (sym c.record_at.ensures ∙ c.in-Record.is) c.if-k-kind.false c.if-not-k.false in
    let i = c.loop-k.invariant in
    (sym e.0 ∙ i.0, sym e.1 ∙ i.1)

pub returns-in_default : goal.returns-in_default
returns-in_default c = let a = c.args in
    let l = c.loop-k in
    let e = no_record c.record_at.ensures c.in_default.not-Record (error-cut a.s.now a.kind l.place) (error-end a.s.now a.kind l.place) in
    record { value = sym e.0 ∙ l.invariant.0; result_value = sym e.1 ∙ l.invariant.1 }
