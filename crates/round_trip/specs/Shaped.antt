-- The shape of the packets that the builder leaves of a script (document 02, 2026-02): all but the last are full, none has an empty
-- payload, numbers rise from 1, and the end bit is on the last only. Rests on packet's shape, result's builder and RoundTrip.
use Rattle.std.specs.Prelude.{Ok, ℕ, ◌≡◌, List, length}
use Rattle.packet.specs.Shaped.{InShape}
use Rattle.emission.specs.Emission.{pieces, bytes_in}
use Rattle.round_trip.specs.RoundTrip.{sized, built_by, packets_left}

-- of every script that is accepted at a size, over whatever was lent: the packets are in shape, and their payloads joined are what the
-- script emits
abbrev pub RepliesShaped : Type 0
RepliesShaped =
    (size : ℕ) (s b : List ℕ) (n : ℕ) → built_by (sized size) s (length b) ≡ Ok n
    → InShape size (bytes_in (pieces s)) (packets_left (sized size) s b n)
