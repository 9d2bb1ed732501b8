-- The packet sizes that can be agreed at login, how many packets of a size a payload becomes, and what is left of a buffer in
-- which a payload was cut (document 02, 2026-02, 'Packets of the agreed size'). Rests on Cut.
use Rattle.std.specs.Prelude.{ℕ, zero, suc, ◌+◌, ◌-◌, ◌*◌, ◌/◌, ◌≤◌, ◌≡◌, Bool, cond, ◌&&◌, List, [], leb, length, take, drop, Option, Some, None}
use Rattle.wire.specs.Over.{overwrite}
use Rattle.packet.specs.Cut.{packets_of}

-- a size that can be agreed: 512 to 32,767 bytes, header included
abbrev pub is_packet_size : ℕ → Bool
is_packet_size size = leb 512 size && leb size 32767

-- how many parts of at most room bytes n bytes make: n / room, rounded up; without room, none
unfoldable pub part_count : (room n : ℕ) → ℕ
part_count zero n = 0
part_count (suc less) n = (n + less) / suc less

-- how many packets of a size a payload of n bytes becomes
unfoldable pub packet_count : ℕ → ℕ → ℕ
packet_count size n = part_count (size - 8) n

-- how many bytes these packets have: the payload's, and eight for each header
unfoldable pub packets_length : ℕ → ℕ → ℕ
packets_length size n = n + packet_count size n * 8

-- so long are the packets of every payload, at every size that has room for payload: one law for builders, for room and for cutting
abbrev pub LengthInPackets : Type 0
LengthInPackets = (size : ℕ) (p : List ℕ) → 9 ≤ size → length (packets_of size p) ≡ packets_length size (length p)

-- the packets of a payload; of a size without room for payload, none
unfoldable pub whole_packets : ℕ → List ℕ → List ℕ
whole_packets size payload = cond (leb size 8) [] (packets_of size payload)

-- the payload of n bytes that stands in a buffer after eight bytes for each of its packets, so that it ends where they will
unfoldable pub held_payload : ℕ → ℕ → List ℕ → List ℕ
held_payload size n buf = take n (drop (packet_count size n * 8) buf)

-- there is room to cut a payload of n bytes in lent bytes: for payload in a packet, and for all packets
abbrev pub can_cut : ℕ → ℕ → ℕ → Bool
can_cut size n lent = leb 9 size && leb (packets_length size n) lent

-- what cutting it there comes to: the length of the packets, or no room
unfoldable pub cut_answer : ℕ → ℕ → ℕ → Option ℕ
cut_answer size n lent = cond (can_cut size n lent) (Some (packets_length size n)) None

-- a buffer in which a payload was cut: the packets at its front; without room for them, the buffer as it was
unfoldable pub cut_buffer : ℕ → ℕ → List ℕ → List ℕ
cut_buffer size n buf = cond (can_cut size n (length buf)) (overwrite buf 0 (packets_of size (held_payload size n buf))) buf
