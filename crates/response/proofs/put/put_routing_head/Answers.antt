-- `response::put::put_routing_head` meets its contract. Assumes nothing.
use Rattle.wire.proofs.Puts.{then}
use Rattle.response.proofs.Writing.{alone, low}
use Rattle.wire.specs.Fields.{flat}
use native.Mathlib.Omega.{arith}
use Prim.Native.Nat.{◌+◌}
use Rattle.response.proofs.put.put_routing_head.Goals as goal

pub returns : goal.returns
unfolding flat
returns c = let n = c.args.size in
    then c.put_u8.ensures (then (low 2 _ (5 + n) (omega arith) c.put_u16_le.ensures) (then c.put_u8-2.ensures (alone (low 2 _ n (omega arith) c.put_u16_le-2.ensures))))
