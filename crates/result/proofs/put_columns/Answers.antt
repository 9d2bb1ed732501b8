-- `result::put_columns` meets its contract. Assumes nothing.
use borrow.Enum.Refused.{opened}
use Rattle.script.proofs.Stops.{stops}
use Rattle.emission.proofs.Aheads.{ahead-other, ahead-cut, ahead-end}
use Rattle.wire.proofs.Puts.{put_nothing, place_in, owes-less, owes-last}
use Rattle.result.proofs.Writes.{columns_left, columns-more, columns-none}
use Prim.Native.Nat.{ℕ, ◌+◌}
use Rattle.script.specs.declared.Found.TheVariants.{Record}
use Rattle.script.specs.Records.{record_at}
use Rattle.script.proofs.Walk
use mathlib.Core.Path.{◌≡◌, sym, ap, ◌∙◌}
use native.Mathlib.Omega.{arith}
use Rattle.result.proofs.put_columns.Goals as goal

pub loop-kind-init : goal.loop-kind-init
loop-kind-init c = (c.requires.1, c.requires.0, λ n w. w)

pub returns-then-kind-ne-COLUMN : goal.returns-then-kind-ne-COLUMN
returns-then-kind-ne-COLUMN c = let l = c.loop-kind in
    owes-last _ _ l.w (columns_left _ l.place) l.invariant.2 (columns-none _ l.place (ahead-other c.args.s.now c.loop-kind.place 2 (sym c.record_at.ensures ∙ c.in-Record.is) c.if-kind-ne-COLUMN.true)) (put_nothing l.w l.invariant.1)

pub overflow_add-next : goal.overflow_add-next
overflow_add-next c = omega (arith, (Walk.lies c.args.s.now c.loop-kind.place (sym c.record_at.ensures ∙ c.in-Record.is)))

pub slice_bounds-put_column-start : goal.slice_bounds-put_column-start
slice_bounds-put_column-start c = omega (arith, (Walk.lies c.args.s.now c.loop-kind.place (sym c.record_at.ensures ∙ c.in-Record.is)))

pub slice_bounds-put_column-end : goal.slice_bounds-put_column-end
slice_bounds-put_column-end c = omega (arith, (Walk.lies c.args.s.now c.loop-kind.place (sym c.record_at.ensures ∙ c.in-Record.is)))

pub loop-kind-smaller : goal.loop-kind-smaller
loop-kind-smaller c = omega (arith, (Walk.lies c.args.s.now c.loop-kind.place (sym c.record_at.ensures ∙ c.in-Record.is)))

pub loop-kind-preserved : goal.loop-kind-preserved
loop-kind-preserved c = let l = c.loop-kind in
    let e : record_at c.args.s.now c.loop-kind.place ≡ Record 2 c.in-Record.start c.in-Record.len = (sym c.record_at.ensures ∙ c.in-Record.is) ∙ ap (λ (j : ℕ). Record j c.in-Record.start c.in-Record.len) c.if-kind-ne-COLUMN.false in
    ((Walk.lies c.args.s.now c.loop-kind.place (sym c.record_at.ensures ∙ c.in-Record.is)).1, place_in c.put_column.ensures, owes-less _ (columns_left c.args.s.now c.args.«from») l.w (columns_left c.args.s.now c.loop-kind.place) (columns_left c.args.s.now (c.in-Record.start + c.in-Record.len)) l.invariant.2 (columns-more c.args.s.now c.loop-kind.place c.in-Record.start c.in-Record.len e) c.put_column.ensures)

pub returns-in-Cut : goal.returns-in-Cut
returns-in-Cut c = let l = c.loop-kind in
    let s = c.args.s.now in
    let none = stops c.record_at.ensures (opened c.in-Cut.in-Cut-own.keys2) (ahead-cut s l.place 2) (ahead-end s l.place 2) in
    owes-last _ _ l.w (columns_left s l.place) l.invariant.2 (columns-none s l.place none) (put_nothing l.w l.invariant.1)
