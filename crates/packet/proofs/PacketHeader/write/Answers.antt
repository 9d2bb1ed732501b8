-- `packet::PacketHeader::write` meets its contract. Assumes nothing.
use mathlib.Core.Path.{sym}
use Rattle.wire.proofs.Puts.{then}
use Rattle.packet.specs.Header.{header_bytes}
use Rattle.packet.proofs.PacketHeader.write.Goals as goal

pub returns : goal.returns
unfolding header_bytes
returns c = rw (sym c.byte.ensures) (then (then (then (then (then c.put_u8.ensures c.put_u8-2.ensures) c.put_u16.ensures) c.put_u16-2.ensures) c.put_u8-3.ensures) c.put_u8-4.ensures)
