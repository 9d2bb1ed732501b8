-- `payload::frames::walk` meets its contract. Assumes nothing.
use Prim.Native.Nat.{◌+◌, ◌-◌}
use lib.ListN.{length}
use Rattle.payload.proofs.Reach.{Reaching}
use Rattle.payload.proofs.frames.walk.Given as goal

abbrev pub invariant-loop-here : goal.invariant-loop-here
invariant-loop-here l = Reaching l.lent l.initial.here l.here (l.at + l.n)

abbrev pub decreases-loop-here : goal.decreases-loop-here
decreases-loop-here l = length l.lent - l.here.end
