-- A position's packet and place in it, to a payload place and back (document 02, 2026-02). Packets count from 1, and not modulo 256;
-- a place in a packet counts from the packet's first byte, its header included. Rests on Packets.
use Rattle.std.specs.Prelude.{ℕ, zero, suc, ◌+◌, ◌-◌, cond, ◌&&◌, leb, length}
use Rattle.refusals.specs.Numbers.{cut_short}
use Rattle.payload.specs.Packets.{Packets, packet, stop, Stop, bad, broken, over}

-- a payload place, or the refusal of a position
pub data Placed : Type 0 where
  at : ℕ → Placed
  refused : ℕ → Placed

-- the refusal of a position past the packets there are: that of a header that does not pass, else 24
abbrev pub lost_at : Stop → ℕ
lost_at (bad n) = n
lost_at broken = cut_short
lost_at over = cut_short

-- a place in the packet that comes after some; the payload places count from base
unfoldable pub place_from : ℕ → Packets → ℕ → ℕ → Placed
place_from base (packet p last ps) zero place = cond (leb 8 place && leb place (8 + length p)) (at (base + (place - 8))) (refused cut_short)
place_from base (packet p last ps) (suc i) place = place_from (base + length p) ps i place
place_from base (stop s) i place = refused (lost_at s)

-- the payload place of a position; there is no packet 0
unfoldable pub place_in : Packets → ℕ → ℕ → Placed
place_in (packet p last ps) zero place = refused cut_short
place_in (stop s) zero place = refused (lost_at s)
place_in ps (suc i) place = place_from 0 ps i place

-- a packet's number and a place in it
pub record Corner : Type 0 where
  pub packet : ℕ
  pub place : ℕ

-- where payload place n lies, among packets from the number-th on whose payload begins at place base: in the packet of the byte
-- before it, so that a packet's end is not yet the next packet
unfoldable pub corner_from : ℕ → ℕ → Packets → ℕ → Corner
corner_from base number (packet p last ps) n =
    cond (leb n (base + length p)) (record { packet = number; place = 8 + (n - base) }) (corner_from (base + length p) (number + 1) ps n)
corner_from base number (stop s) n = record { packet = number; place = 8 + (n - base) }

unfoldable pub corner_of : Packets → ℕ → Corner
corner_of ps n = corner_from 0 1 ps n
