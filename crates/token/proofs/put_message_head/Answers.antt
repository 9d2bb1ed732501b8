-- `token::put_message_head` meets its contract. Assumes nothing.
use Rattle.wire.proofs.Puts.{then, ended}
use Rattle.wire.specs.Fields.{flat}
use Rattle.token.proofs.put_message_head.Goals as goal

pub returns : goal.returns
unfolding flat
returns c = then c.put_u8.ensures (then c.put_u16_le.ensures (then c.put_u32_le.ensures (then c.put_u8-2.ensures (then c.put_u8-3.ensures (ended c.put_u8-3.ensures)))))
