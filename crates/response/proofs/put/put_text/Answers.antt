-- `response::put::put_text` meets its contract. Assumes nothing.
use Rattle.wire.proofs.Puts.{then}
use Rattle.response.proofs.Writing.{alone}
use Rattle.wire.specs.Fields.{flat}
use Rattle.response.proofs.put.put_text.Goals as goal

pub returns : goal.returns
unfolding flat
returns c = then c.put_u16_le.ensures (alone c.put_slice.ensures)
