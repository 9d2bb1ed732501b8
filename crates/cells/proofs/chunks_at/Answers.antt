-- `cells::chunks_at` meets its contract. Assumes nothing.
use mathlib.Core.Path.{refl}
use native.Mathlib.Omega.{arith}
use Rattle.std.proofs.lemmas.Result.{err_from_is_err_and}
use Rattle.cells.proofs.CodeChunks.{chunking-begins, chunking-breaks, chunking-ends, chunking-last, chunking-says, chunking-on}
use Rattle.cells.proofs.chunks_at.Goals as goal

pub loop-next-init : goal.loop-next-init
loop-next-init c = chunking-begins _ _ _ _ _ _

pub returns-in_err-next : goal.returns-in_err-next
returns-in_err-next c =
    let p = err_from_is_err_and c.from_residual.result c.from_residual.ensures.1 in
    rw (p.1, p.2) (chunking-breaks c.loop-next.invariant c.chunk_at.ensures c.in_err-next.was)

pub overflow_sub-result : goal.overflow_sub-result
overflow_sub-result c = chunking-last c.loop-next.invariant c.chunk_at.ensures (rw c.in-Last.is at c.in_ok-next.was)

pub returns-in-Last : goal.returns-in-Last
returns-in-Last c = chunking-ends c.loop-next.invariant c.chunk_at.ensures (rw c.in-Last.is at c.in_ok-next.was)

pub overflow_add-count : goal.overflow_add-count
overflow_add-count c = let inv = c.loop-next.invariant in
    let h = chunking-says inv c.chunk_at.ensures (rw c.in-More.is at c.in_ok-next.was) in
    omega (arith, h.1, inv.most)

pub loop-next-smaller : goal.loop-next-smaller
loop-next-smaller c = let h = chunking-says c.loop-next.invariant c.chunk_at.ensures (rw c.in-More.is at c.in_ok-next.was) in omega (arith, h.1, h.2)

pub loop-next-preserved : goal.loop-next-preserved
loop-next-preserved c = chunking-on c.loop-next.invariant c.chunk_at.ensures (rw c.in-More.is at c.in_ok-next.was) c.saturating_sub-left.ensures refl c.frame_at-here.ensures
