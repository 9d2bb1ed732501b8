-- What the exports that build replies answer: how many bytes were written, or a refusal. Rests on the definitions of `response`.
use Rattle.std.specs.Prelude.{Option, Some, None, cond, List, ℕ, ltb, ℤ}
use Rattle.response.specs.Answer.{Reply, built_of}
use Rattle.response.specs.Packets.{cut_built}
use Rattle.station.specs.Answer.{number_of, built_outcome}

-- the number of a reply for a lent buffer
unfoldable pub built_number : Reply → List ℕ → ℤ
built_number p buf = number_of (built_outcome (built_of p buf))

-- the number of a payload cut into packets of a size where n bytes are lent
unfoldable pub cut_number : (size : ℕ) → List ℕ → (n : ℕ) → ℤ
cut_number size payload n = number_of (built_outcome (cut_built size payload n))

-- the acknowledgement of enhanced routing that a number stands for: its byte IsEnabled; none from 256 on
unfoldable pub ack_of : ℕ → Option ℕ
ack_of n = cond (ltb n 256) (Some n) None
