-- `rpc::parameters_at` meets its contract. The loop's invariant: the parameters up to the place were passed, and what is left of the
-- parameters is read from there. The measure is what is left of the body. Assumes nothing.
use Rattle.payload.specs.Places.{body_source}
use Rattle.rpc.proofs.Walk.{Walked}
use Prim.Native.Nat.{◌-◌}
use lib.ListN.{length}
use Rattle.rpc.proofs.parameters_at.Given as goal

abbrev pub invariant-loop-at : goal.invariant-loop-at
invariant-loop-at l = Walked (body_source l.body) l.start l.number l.at l.count l.seen

abbrev pub decreases-loop-at : goal.decreases-loop-at
decreases-loop-at l = length l.body - l.at
