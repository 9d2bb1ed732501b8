-- `payload::joining::copy_payload` meets its contract. Assumes nothing.
use Rattle.payload.proofs.Payloads.{copying-begins, copying-on, left-falls}
use Rattle.payload.proofs.joining.copy_payload.Goals as goal

pub loop-packet-init : goal.loop-packet-init
loop-packet-init c = copying-begins _ _ _ c.first-packet.ensures

pub copy_packet-requires : goal.copy_packet-requires
copy_packet-requires c = let m = rw c.in-Ok.is at c.loop-packet.invariant in (m.lies, m.some)

pub onward-packet-requires : goal.onward-packet-requires
onward-packet-requires c = (rw c.in-Ok.is at c.loop-packet.invariant).lies

pub loop-packet-smaller : goal.loop-packet-smaller
loop-packet-smaller c = let m = rw c.in-Ok.is at c.loop-packet.invariant in rw c.in-Ok.is (left-falls _ _ _ m.lies c.onward-packet.ensures)

pub loop-packet-preserved : goal.loop-packet-preserved
loop-packet-preserved c = copying-on _ (rw c.in-Ok.is at c.loop-packet.invariant) c.copy_packet.ensures c.onward-packet.ensures

pub returns : goal.returns
returns c = rw c.in_default.is at c.loop-packet.invariant
