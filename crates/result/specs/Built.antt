-- What the reply builders answer, the room for what they write, and what they leave of the lent bytes (document 01, 'Who causes which
-- refusal'; document 02, 2026-02 and 2026-04): the script's own refusal, then 20; before them 32, where a packet size is asked for.
-- Rests on emission's reply and refusal, and on packet's cutting.
use Rattle.std.specs.Prelude.{ℕ, Result, Ok, Err, ◌+◌, ◌≤◌, ◌≡◌, Bool, true, cond, ◌&&◌, ◌||◌, List, eqb, leb, ltb, length}
use Rattle.refusals.specs.Numbers.{buffer_too_short, packet_size}
use Rattle.wire.specs.Over.{overwrite}
use Rattle.packet.specs.Cut.{packets_of}
use Rattle.packet.specs.Agreed.{is_packet_size}
use Rattle.emission.specs.Emission.{pieces, bytes_in, reply_of}
use Rattle.emission.specs.Refusal.{refusal_of}

-- ---- the room

-- the bytes of an accepted script; else the script's own refusal, 11 to 17
abbrev pub room_for : List ℕ → List ℕ → Result ℕ ℕ
room_for s bytes = cond (eqb (refusal_of s) 0) (Ok (length bytes)) (Err (refusal_of s))

-- the room for a script's reply, exactly its length: what the builder answers where enough is lent
unfoldable pub room_of : List ℕ → Result ℕ ℕ
room_of s = room_for s (reply_of s)

-- the reply of a script in packets of a size: the payload of its one packet, cut
unfoldable pub replies_of : ℕ → List ℕ → List ℕ
replies_of size s = packets_of size (bytes_in (pieces s))

-- the room for it, exactly the sum of all packets with their headers; 32 of a size that cannot be agreed, before all others
unfoldable pub room_at : ℕ → List ℕ → Result ℕ ℕ
room_at size s = cond (is_packet_size size) (room_for s (replies_of size s)) (Err packet_size)

-- ---- the builders

-- where n bytes are lent: 20 where they are too few, after all other refusals
abbrev pub fitted : Result ℕ ℕ → ℕ → Result ℕ ℕ
fitted (Ok k) n = cond (ltb n k) (Err buffer_too_short) (Ok k)
fitted (Err f) n = Err f

-- what the reply builder answers where n bytes are lent
unfoldable pub built_of : List ℕ → ℕ → Result ℕ ℕ
built_of s n = fitted (room_of s) n

-- and the builder of packets
unfoldable pub built_in_packets : ℕ → List ℕ → ℕ → Result ℕ ℕ
built_in_packets size s n = fitted (room_at size s) n

-- what is left of the lent bytes: a refused call writes nothing
abbrev pub leaves : Result ℕ ℕ → List ℕ → List ℕ → List ℕ
leaves (Ok n) reply buf = overwrite buf 0 reply
leaves (Err n) reply buf = buf

unfoldable pub buffer_of : List ℕ → List ℕ → List ℕ
buffer_of s buf = leaves (built_of s (length buf)) (reply_of s) buf

unfoldable pub buffer_in_packets : ℕ → List ℕ → List ℕ → List ℕ
buffer_in_packets size s buf = leaves (built_in_packets size s (length buf)) (replies_of size s) buf

-- ---- the room is just enough

-- the numbers by which it is refused: 11 to 17, and 32
abbrev pub own_refusal : ℕ → Bool
own_refusal f = (leb 11 f && leb f 17) || eqb f packet_size

-- A room is just enough for a builder that answers `answer m` where m bytes are lent: with as many bytes or more it writes them, and
-- with one byte less or fewer it answers 20. A refusal is neither 0 nor 20, and it is the builder's too, whatever is lent.
abbrev pub Enough : Result ℕ ℕ → (ℕ → Result ℕ ℕ) → Type 0
Enough (Ok n) answer = ((m : ℕ) → n ≤ m → answer m ≡ Ok n) × ((m : ℕ) → m + 1 ≤ n → answer m ≡ Err buffer_too_short)
Enough (Err f) answer = (own_refusal f ≡ true) × ((m : ℕ) → answer m ≡ Err f)

-- of every script, for both builders
abbrev pub JustEnough : Type 0
JustEnough = (s : List ℕ) → Enough (room_of s) (built_of s) × ((size : ℕ) → Enough (room_at size s) (built_in_packets size s))
