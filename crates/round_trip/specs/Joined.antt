-- Packets that were cut are joined again, at every size (document 02, 2026-02: 'The reply reader joins packets again'). Rests on packet's
-- cutting and payload's packets.
use Rattle.std.specs.Prelude.{ℕ, ◌≤◌, ◌<◌, ◌≡◌, List, length}
use Rattle.packet.specs.Cut.{packets_of}
use Rattle.payload.specs.Packets.{packets_in, payload_of, stop_of, over}

-- a payload of a byte or more, cut at any size that has room for a byte: the packets have it as their payload, and end as they should
abbrev pub Joined : Type 0
Joined =
    (size : ℕ) (p : List ℕ) → 9 ≤ size → size < 65536 → 1 ≤ length p
    → (payload_of (packets_in (packets_of size p)) ≡ p) × (stop_of (packets_in (packets_of size p)) ≡ over)
