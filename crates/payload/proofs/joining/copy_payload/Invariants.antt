-- `payload::joining::copy_payload` meets its contract. The loop's invariant: whoever copies the payloads from the packet on, at the
-- packet's place, has copied the whole. Assumes nothing.
use Rattle.payload.proofs.Payloads.{CopyingTo, left_after}
use Rattle.payload.proofs.joining.copy_payload.Given as goal

abbrev pub invariant-loop-packet : goal.invariant-loop-packet
invariant-loop-packet l = CopyingTo l.lent l.initial.buf l.buf l.packet

abbrev pub decreases-loop-packet : goal.decreases-loop-packet
decreases-loop-packet l = left_after l.lent l.packet
