-- `payload::frames::resolve` meets its contract. Assumes nothing.
use Prim.Native.Nat.{◌-◌}
use Rattle.payload.proofs.Spots.{Walking}
use Rattle.payload.proofs.frames.resolve.Given as goal

abbrev pub invariant-loop-number : goal.invariant-loop-number
invariant-loop-number l = Walking l.lent l.packet l.place l.start l.at l.number l.last

abbrev pub decreases-loop-number : goal.decreases-loop-number
decreases-loop-number l = l.packet - l.number
