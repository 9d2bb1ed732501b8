-- `response::put::put_error_head` meets its contract. Assumes nothing.
use Rattle.wire.proofs.Puts.{then}
use Rattle.response.proofs.Writing.{alone}
use Rattle.wire.specs.Fields.{flat}
use Rattle.response.proofs.put.put_error_head.Goals as goal

pub returns : goal.returns
unfolding flat
returns c = then c.put_u8.ensures (then c.put_u16.ensures (then c.put_u32_le.ensures (then c.put_u8-2.ensures (alone c.put_u8-3.ensures))))
