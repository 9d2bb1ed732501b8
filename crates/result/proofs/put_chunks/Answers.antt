-- `result::put_chunks` meets its contract. Assumes nothing.
use borrow.Enum.Refused.{opened}
use Rattle.script.proofs.Stops.{stops}
use Rattle.emission.proofs.Aheads.{ahead-other, ahead-cut, ahead-end}
use Rattle.wire.proofs.Puts.{owes-less, owes-last}
use Rattle.result.proofs.Writes.{chunks_left, chunks-more, chunks-none}
use Prim.Native.Nat.{ℕ, ◌+◌}
use Rattle.script.specs.declared.Found.TheVariants.{Record}
use Rattle.script.specs.Records.{record_at}
use Rattle.script.proofs.Walk
use mathlib.Core.Path.{◌≡◌, sym, ap, ◌∙◌}
use native.Mathlib.Omega.{arith}
use Rattle.result.proofs.put_chunks.Goals as goal

pub loop-kind-init : goal.loop-kind-init
loop-kind-init c = (c.requires, λ n w. w)

pub returns-then-kind-ne-CHUNK : goal.returns-then-kind-ne-CHUNK
returns-then-kind-ne-CHUNK c = let l = c.loop-kind in
    owes-last _ _ l.w (chunks_left _ l.place) l.invariant.1 (chunks-none _ l.place (ahead-other c.args.s.now c.loop-kind.place 6 (sym c.record_at.ensures ∙ c.in-Record.is) c.if-kind-ne-CHUNK.true)) c.put_u32_le.ensures

pub overflow_add-next : goal.overflow_add-next
overflow_add-next c = omega (arith, (Walk.lies c.args.s.now c.loop-kind.place (sym c.record_at.ensures ∙ c.in-Record.is)))

pub slice_bounds-put_chunk-start : goal.slice_bounds-put_chunk-start
slice_bounds-put_chunk-start c = omega (arith, (Walk.lies c.args.s.now c.loop-kind.place (sym c.record_at.ensures ∙ c.in-Record.is)))

pub slice_bounds-put_chunk-end : goal.slice_bounds-put_chunk-end
slice_bounds-put_chunk-end c = omega (arith, (Walk.lies c.args.s.now c.loop-kind.place (sym c.record_at.ensures ∙ c.in-Record.is)))

pub loop-kind-smaller : goal.loop-kind-smaller
loop-kind-smaller c = omega (arith, (Walk.lies c.args.s.now c.loop-kind.place (sym c.record_at.ensures ∙ c.in-Record.is)))

pub loop-kind-preserved : goal.loop-kind-preserved
loop-kind-preserved c = let l = c.loop-kind in
    let e : record_at c.args.s.now c.loop-kind.place ≡ Record 6 c.in-Record.start c.in-Record.len = (sym c.record_at.ensures ∙ c.in-Record.is) ∙ ap (λ (j : ℕ). Record j c.in-Record.start c.in-Record.len) c.if-kind-ne-CHUNK.false in
    ((Walk.lies c.args.s.now c.loop-kind.place (sym c.record_at.ensures ∙ c.in-Record.is)).1, owes-less _ (chunks_left c.args.s.now c.args.«from») l.w (chunks_left c.args.s.now c.loop-kind.place) (chunks_left c.args.s.now (c.in-Record.start + c.in-Record.len)) l.invariant.1 (chunks-more c.args.s.now c.loop-kind.place c.in-Record.start c.in-Record.len e) c.put_chunk.ensures)

pub returns-in-Cut : goal.returns-in-Cut
returns-in-Cut c = let l = c.loop-kind in
    let s = c.args.s.now in
    let none = stops c.record_at.ensures (opened c.in-Cut.in-Cut-own.keys2) (ahead-cut s l.place 6) (ahead-end s l.place 6) in
    owes-last _ _ l.w (chunks_left s l.place) l.invariant.1 (chunks-none s l.place none) c.put_u32_le-in-Cut.ensures
