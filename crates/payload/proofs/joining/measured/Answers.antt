-- `payload::joining::measured` meets its contract. Assumes nothing.
use Rattle.payload.proofs.Payloads.{measuring-begins, measuring-on, left-falls, answered}
use Rattle.payload.proofs.joining.measured.Goals as goal

pub loop-packet-init : goal.loop-packet-init
loop-packet-init c = measuring-begins _ _ c.first-packet.ensures

pub onward-packet-requires : goal.onward-packet-requires
onward-packet-requires c = (rw c.in-Ok.is at c.loop-packet.invariant).lies

pub loop-packet-smaller : goal.loop-packet-smaller
loop-packet-smaller c = let m = rw c.in-Ok.is at c.loop-packet.invariant in rw c.in-Ok.is (left-falls _ _ _ m.lies c.onward-packet.ensures)

pub loop-packet-preserved : goal.loop-packet-preserved
loop-packet-preserved c = measuring-on _ (rw c.in-Ok.is at c.loop-packet.invariant) c.onward-packet.ensures

pub returns-in-Err : goal.returns-in-Err
returns-in-Err c = answered _ _ c.ended.ensures (rw c.in-Err.is at c.loop-packet.invariant)
