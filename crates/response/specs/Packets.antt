-- A reply's payload in packets of a size (document 02, 2026-02): what is answered, and what is left in the lent buffer. Rests on
-- packet's cutting and on Answer.
use Rattle.std.specs.Prelude.{ℕ, Result, Ok, Err, cond, List, [], ◌∷◌, length, eqb, ltb}
use Rattle.refusals.specs.Numbers.{buffer_too_short, result_too_long, packet_size}
use Rattle.wire.specs.Over.{overwrite}
use Rattle.packet.specs.Cut.{packets_of}
use Rattle.packet.specs.Agreed.{is_packet_size}
use Rattle.response.specs.Answer.{first_of}

-- the refusal of a payload that is to be cut where n bytes are lent, or 0: 32 of a size that cannot be agreed, then 17 over
-- 65,527 bytes, then 20 where the lent bytes are too few for all packets
unfoldable pub cut_refusal : ℕ → List ℕ → ℕ → ℕ
cut_refusal size payload n =
    first_of (cond (is_packet_size size) 0 packet_size ∷ cond (ltb 65527 (length payload)) result_too_long 0 ∷ cond (ltb n (length (packets_of size payload))) buffer_too_short 0 ∷ [])

-- the answer: how many bytes all packets have, or the refusal
unfoldable pub cut_built : ℕ → List ℕ → ℕ → Result ℕ ℕ
cut_built size payload n = cond (eqb (cut_refusal size payload n) 0) (Ok (length (packets_of size payload))) (Err (cut_refusal size payload n))

-- the lent buffer, the packets first; a refusal leaves it
unfoldable pub cut_buffer : ℕ → List ℕ → List ℕ → List ℕ
cut_buffer size payload buf = cond (eqb (cut_refusal size payload (length buf)) 0) (overwrite buf 0 (packets_of size payload)) buf
