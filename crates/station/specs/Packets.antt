-- What the export that joins a reply's packets answers. Rests on the packets of `payload`.
use Rattle.std.specs.Prelude.{ℕ, List, length}
use Rattle.refusals.specs.Numbers.{end_bit_wrong}
use Rattle.payload.specs.Packets.{Stop, bad, broken, over, packets_in, payload_of, stop_of}
use Rattle.station.specs.Answer.{Outcome, answers, refuses}

-- how many payload bytes, and the bytes: the slots are here the bytes of the lent buffer. Packets that do not end as they should
-- are refused by what stops them
abbrev pub payload_outcome : Stop → List ℕ → Outcome
payload_outcome over payload = answers (length payload) payload
payload_outcome broken payload = refuses end_bit_wrong
payload_outcome (bad n) payload = refuses n

unfoldable pub payload_call : List ℕ → Outcome
payload_call l = payload_outcome (stop_of (packets_in l)) (payload_of (packets_in l))
