-- The packets that the builder leaves are in shape: those of a payload with a byte are, and an accepted script's payload has one.
-- Assumes nothing.
use native.Mathlib.Omega.{arith}
use lib.ListN.{length}
use Rattle.packet.proofs.Counts.{size-bounds}
use Rattle.packet.proofs.Shapes.{shaped}
use Rattle.emission.specs.Emission.{pieces, bytes_in}
use Rattle.result.specs.Built.{replies_of}
use Rattle.round_trip.specs.RoundTrip.{sized}
use Rattle.round_trip.specs.Shaped.{RepliesShaped}
use Rattle.round_trip.proofs.RoundTrip.{written, left_is, payload-some}

pub replies-shaped : RepliesShaped
unfolding replies_of
replies-shaped size s b n e =
    let w = written (sized size) s (length b) n e in
    rw (left_is (sized size) s b n e) (shaped size (bytes_in (pieces s)) (omega (arith, (size-bounds size w.agreed).0)) (payload-some s w.accepted))
