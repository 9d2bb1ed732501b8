-- The packets of a reply in lent bytes, in their order as far as their headers pass (document 02, 2026-02). Rests on packet's header.
use Rattle.std.specs.Prelude.{ℕ, zero, suc, ◌+◌, ◌-◌, ◌%◌, Bool, false, cond, ◌&&◌, List, [], ◌∷◌, ◌++◌, eqb, leb, length, take, drop, Result, Ok, Err}
use Rattle.refusals.specs.Numbers.{header_too_short, not_reply, not_next, cut_short, end_bit_wrong}
use Rattle.packet.specs.declared.PacketHeader.{PacketHeader}
use Rattle.packet.specs.Types.{byte_of}
use Rattle.packet.specs.Status.{has_bit}
use Rattle.packet.specs.Header.{parsed_of}
use Rattle.payload.specs.declared.frames.Next.{Next}
use Rattle.payload.specs.Places.{Source}

-- what stands after the last packet that passes
pub data Stop : Type 0 where
  -- a header that is not the next of a reply: 8, 9, 23 or 33
  bad : ℕ → Stop
  -- bytes after an end bit, or none where there is no end bit
  broken : Stop
  -- an end bit, and nothing after it
  over : Stop

-- packets, each by its payload and its end bit
pub data Packets : Type 0 where
  packet : (payload : List ℕ) (last : Bool) → Packets → Packets
  stop : Stop → Packets

-- a packet of a reply of which n bytes are lent: type 04, a length of 9 or more that the bytes have
unfoldable pub is_part : PacketHeader → ℕ → Bool
is_part h n = eqb (byte_of h.packet_type) 0x04 && leb 9 h.length && leb h.length n

-- what a header begins that is to be the number-th from 1, where n bytes are lent from it on: 23, then 33. A header's number is
-- one byte, so that 0 follows 255
unfoldable pub headed : Result PacketHeader ℕ → ℕ → ℕ → Result Next Stop
headed (Err r) number n = Err (bad r)
headed (Ok h) number n =
    cond (is_part h n)
    (cond (eqb h.packet_id (number % 256)) (Ok (record { len = h.length - 8; last = has_bit 0x01 h.status.0 })) (Err (bad not_next)))
    (Err (bad not_reply))

-- what stands at the front of bytes after a packet that had the end bit or not
unfoldable pub next_of : ℕ → Bool → List ℕ → Result Next Stop
next_of number ended [] = Err (cond ended over broken)
next_of number ended (b ∷ l) = cond ended (Err broken) (headed (parsed_of (b ∷ l)) number (length (b ∷ l)))

-- the packets that it begins in the bytes l; go reads on after a packet, past the rest of it
abbrev pub begun : Result Next Stop → List ℕ → (ℕ → Bool → Packets) → Packets
begun (Ok p) l go = packet (take p.len (drop 8 l)) p.last (go (p.len + 7) p.last)
begun (Err s) l go = stop s

-- the packets from the number-th on, after one that had the end bit or not; the first bytes, the rest of it, are passed over
unfoldable pub packets_from : ℕ → ℕ → Bool → List ℕ → Packets
packets_from rest number ended [] = stop (cond ended over broken)
packets_from (suc rest) number ended (b ∷ l) = packets_from rest number ended l
packets_from zero number ended (b ∷ l) = begun (next_of number ended (b ∷ l)) (b ∷ l) (λ rest last. packets_from rest (number + 1) last l)

-- the packets of lent bytes: 8 where none are lent
unfoldable pub packets_in : List ℕ → Packets
packets_in [] = stop (bad header_too_short)
packets_in (b ∷ l) = packets_from zero 1 false (b ∷ l)

-- their payloads joined
unfoldable pub payload_of : Packets → List ℕ
payload_of (packet p last ps) = p ++ payload_of ps
payload_of (stop s) = []

-- what stands after them
unfoldable pub stop_of : Packets → Stop
stop_of (packet p last ps) = stop_of ps
stop_of (stop s) = s

-- the refusal of a step that must read on past them
abbrev pub refusal_at : Stop → ℕ
refusal_at (bad n) = n
refusal_at broken = end_bit_wrong
refusal_at over = cut_short

-- what packets are to a reader: their payload, and the refusal of reading past it
unfoldable pub source_of : Packets → Source
source_of ps = record { bytes = payload_of ps; stop = refusal_at (stop_of ps) }
