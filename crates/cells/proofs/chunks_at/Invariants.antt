-- `cells::chunks_at` meets its contract. Assumes nothing.
use Prim.Native.Nat.{◌-◌}
use lib.ListN.{length}
use Rattle.payload.specs.Frames.{source_from}
use Rattle.cells.proofs.CodeChunks.{Chunking}
use Rattle.cells.proofs.chunks_at.Given as goal

abbrev pub invariant-loop-next : goal.invariant-loop-next
invariant-loop-next l = Chunking l.lent l.initial.here l.here l.text l.known l.start l.total l.at l.left l.count

abbrev pub decreases-loop-next : goal.decreases-loop-next
decreases-loop-next l = length (source_from l.lent l.initial.here).bytes - l.at
