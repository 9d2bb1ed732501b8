-- `payload::joining::measured` meets its contract. The loop's invariant: the whole payload has the bytes up to the packet's end and
-- those of the packets after it, and the same stops them. Assumes nothing.
use Rattle.payload.proofs.Payloads.{MeasuringTo, left_after}
use Rattle.payload.proofs.joining.measured.Given as goal

abbrev pub invariant-loop-packet : goal.invariant-loop-packet
invariant-loop-packet l = MeasuringTo l.lent l.end l.packet

abbrev pub decreases-loop-packet : goal.decreases-loop-packet
decreases-loop-packet l = left_after l.lent l.packet
