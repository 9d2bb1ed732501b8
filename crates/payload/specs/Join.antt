-- The payload of a reply's packets joined in a lent buffer (document 02, 2026-02): what is answered, and what is left in the
-- buffer. Rests on Packets.
use Rattle.std.specs.Prelude.{ℕ, cond, List, ltb, length, Result, Ok, Err}
use Rattle.refusals.specs.Numbers.{buffer_too_short, end_bit_wrong}
use Rattle.wire.specs.Over.{overwrite}
use Rattle.payload.specs.Packets.{Stop, bad, broken, over, packets_in, payload_of, stop_of}

-- a payload of n bytes that is whole, where room bytes are lent: 20 where they are too few
abbrev pub fitted_in : (n room : ℕ) → Result ℕ ℕ
fitted_in n room = cond (ltb room n) (Err buffer_too_short) (Ok n)

-- by what stands after the packets: where they do not end as they should, the number of what stops them, before 20
abbrev pub joined_by : Stop → (n room : ℕ) → Result ℕ ℕ
joined_by over n room = fitted_in n room
joined_by broken n room = Err end_bit_wrong
joined_by (bad r) n room = Err r

-- the answer of joining the packets in lent bytes
unfoldable pub joined_of : List ℕ → (room : ℕ) → Result ℕ ℕ
joined_of l room = joined_by (stop_of (packets_in l)) (length (payload_of (packets_in l))) room

-- the buffer, the payload first; a refusal leaves it
abbrev pub buffer_by : Result ℕ ℕ → List ℕ → List ℕ → List ℕ
buffer_by (Ok n) payload buf = overwrite buf 0 payload
buffer_by (Err r) payload buf = buf

unfoldable pub joined_buffer : List ℕ → List ℕ → List ℕ
joined_buffer l buf = buffer_by (joined_of l (length buf)) (payload_of (packets_in l)) buf
