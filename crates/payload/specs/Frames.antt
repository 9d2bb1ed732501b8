-- Packets by where they lie in lent bytes, as the code walks over them, and what is read from one of them on. A frame may be
-- forged: then it is read as what it says. Rests on Packets, Places and Positions.
use Rattle.std.specs.Prelude.{ℕ, zero, suc, ◌+◌, ◌-◌, ◌*◌, ◌%◌, Bool, true, false, cond, ◌&&◌, List, [], ◌∷◌, ◌++◌, eqb, leb, length, take, drop, Option, Some, None, Result, Ok, Err}
use Rattle.refusals.specs.Numbers.{header_too_short, not_reply, not_next, cut_short}
use Rattle.wire.specs.Le.{le_at}
use Rattle.wire.specs.Be.{be_at}
use Rattle.packet.specs.declared.PacketHeader.{PacketHeader}
use Rattle.packet.specs.Header.{parsed_of}
use Rattle.payload.specs.declared.frames.Frame.{Frame}
use Rattle.payload.specs.declared.frames.Next.{Next}
use Rattle.payload.specs.declared.frames.Spotted.{Spotted}
use Rattle.payload.specs.Packets.{Packets, packet, stop, Stop, bad, is_part, next_of, packets_from, payload_of, stop_of, refusal_at}
use Rattle.payload.specs.Places.{Source}
use Rattle.payload.specs.Positions.{lost_at}

-- Payload byte n of the i-th packet stands at index n + 8 · i of the lent bytes: i headers are before it.

-- the lent bytes have all of a frame
unfoldable pub lies : List ℕ → Frame → Bool
lies l f = leb (f.end + 8 * f.number) (length l)

-- the packets after a frame's
unfoldable pub beyond : List ℕ → Frame → Packets
beyond l f = packets_from 0 (f.number + 1) f.last (drop (f.end + 8 * f.number) l)

-- what is read from a frame on: its packet's bytes, at their places, and the payloads after it. From a frame that the lent bytes
-- do not have nothing is read
unfoldable pub source_from : List ℕ → Frame → Source
source_from l f =
    cond (lies l f)
    (record { bytes = take f.end (drop (8 * f.number) l) ++ payload_of (beyond l f); stop = refusal_at (stop_of (beyond l f)) })
    (record { bytes = []; stop = cut_short })

-- a request's body of n bytes
abbrev pub body_frame : ℕ → Frame
body_frame n = record { base = 0; end = n; number = 0; last = true }

-- ---- from one packet to the next

-- the number-th packet of a reply begins the bytes l, which hold all of it
unfoldable pub is_next : ℕ → List ℕ → Bool
is_next number l =
    leb 8 (length l) && (eqb (le_at 1 l) 0x04 && eqb (le_at 1 (drop 6 l)) (number % 256) && leb 9 (be_at 2 (drop 2 l)) && leb (be_at 2 (drop 2 l)) (length l))

-- its length, where it does
unfoldable pub next_length : ℕ → List ℕ → Option ℕ
next_length number l = cond (is_next number l) (Some (be_at 2 (drop 2 l))) None

-- why it does not
abbrev pub fault_in : Result PacketHeader ℕ → ℕ → ℕ
fault_in (Err r) n = r
fault_in (Ok h) n = cond (is_part h n) not_next not_reply

unfoldable pub fault_of : List ℕ → ℕ
fault_of l = fault_in (parsed_of l) (length l)

-- a packet that begins at payload place base, as the number-th
abbrev pub framed : ℕ → ℕ → Result Next Stop → Result Frame Stop
framed base number (Ok p) = Ok (record { base = base; end = base + p.len; number = number; last = p.last })
framed base number (Err s) = Err s

unfoldable pub first_of : List ℕ → Result Frame Stop
first_of [] = Err (bad header_too_short)
first_of (b ∷ l) = framed 0 1 (next_of 1 false (b ∷ l))

unfoldable pub moved_of : List ℕ → Frame → Result Frame Stop
moved_of l f = framed f.end (f.number + 1) (next_of (f.number + 1) f.last (drop (f.end + 8 * f.number) l))

-- ---- a position's packet and place, and the packet of a payload place

-- a place in a frame's packet, counted from the packet's first byte
abbrev pub within_frame : Frame → ℕ → Result Spotted ℕ
within_frame f place = cond (leb 8 place && leb place (8 + (f.end - f.base))) (Ok (record { frame = f; place = f.base + (place - 8) })) (Err cut_short)

-- the frame of the first of some packets
abbrev pub frame_of : ℕ → ℕ → List ℕ → Bool → Frame
frame_of base number p last = record { base = base; end = base + length p; number = number; last = last }

-- the payload place of a position, with the frame that it lies in
unfoldable pub spot_from : ℕ → ℕ → Packets → ℕ → ℕ → Result Spotted ℕ
spot_from base number (packet p last ps) zero place = within_frame (frame_of base number p last) place
spot_from base number (packet p last ps) (suc i) place = spot_from (base + length p) (number + 1) ps i place
spot_from base number (stop s) i place = Err (lost_at s)

unfoldable pub spot_in : Packets → ℕ → ℕ → Result Spotted ℕ
spot_in (packet p last ps) zero place = Err cut_short
spot_in (stop s) zero place = Err (lost_at s)
spot_in ps (suc i) place = spot_from 0 1 ps i place

-- the packet of the byte before payload place n, in a frame or in the packets after it
unfoldable pub reach_from : Frame → Packets → ℕ → Result Frame ℕ
reach_from f (packet p last ps) n = cond (leb n f.end) (Ok f) (reach_from (frame_of f.end (f.number + 1) p last) ps n)
reach_from f (stop s) n = cond (leb n f.end) (Ok f) (Err (refusal_at s))

abbrev pub nowhere_of : Frame → ℕ → Result Frame ℕ
nowhere_of f n = cond (eqb n 0) (Ok f) (Err cut_short)

unfoldable pub reach_of : List ℕ → Frame → ℕ → Result Frame ℕ
reach_of l f n = cond (lies l f) (reach_from f (beyond l f) n) (nowhere_of f n)

abbrev pub frame_by : Frame → Result Frame ℕ → Frame
frame_by f (Ok g) = g
frame_by f (Err r) = f

-- the frame of the byte before payload place n; the same frame where the payload ends before it
unfoldable pub frame_at : List ℕ → Frame → ℕ → Frame
frame_at l f n = frame_by f (reach_of l f n)
