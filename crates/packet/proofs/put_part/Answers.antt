-- `packet::put_part` meets its contract. Assumes nothing.
use Rattle.wire.proofs.Puts.{then}
use Rattle.packet.specs.Cut.{part_bytes}
use Rattle.packet.proofs.put_part.Goals as goal

pub returns : goal.returns
unfolding part_bytes
returns c = then (rw c.part_header.ensures at c.write.ensures) c.put_slice.ensures
