-- What is read does not depend on the size chosen (document 02, 2026-02). It is said of every payload, and so of every accepted script,
-- whether it fits or not, and of the answers themselves: a part's start and length count payload bytes. Rests on packet's cutting, on
-- RoundTrip, and on emission's refusals.
use Rattle.std.specs.Prelude.{ℕ, ◌≤◌, ◌≡◌, true, List}
use Rattle.packet.specs.Cut.{packets_of}
use Rattle.packet.specs.Agreed.{is_packet_size}
use Rattle.emission.specs.Emission.{reply_of}
use Rattle.emission.specs.Refusal.{refusal_of}
use Rattle.result.specs.Built.{replies_of}
use Rattle.reader.specs.Positions.{fresh_position}
use Rattle.reader.specs.Reader.{answer_of}
use Rattle.round_trip.specs.RoundTrip.{Packing, single, sized}

-- Of every payload, cut at two sizes, the k-th answers of the runs are the same. A size has room for a byte of payload, and a header's
-- length can tell it. An empty payload has no packets, whatever the size.
abbrev pub AnyPayload : Type 0
AnyPayload =
    (payload : List ℕ) (size other : ℕ) → 9 ≤ size → size ≤ 65535 → 9 ≤ other → other ≤ 65535
    → (k : ℕ) → answer_of k (packets_of size payload) fresh_position ≡ answer_of k (packets_of other payload) fresh_position

-- the packets of a script
abbrev pub replies_by : Packing → List ℕ → List ℕ
replies_by single s = reply_of s
replies_by (sized size) s = replies_of size s

-- a size that can be agreed
abbrev pub Agreed : Packing → Type 0
Agreed single = Unit {0}
Agreed (sized size) = is_packet_size size ≡ true

-- of each accepted script, in two ways of sending it, the k-th answers of the runs are the same
abbrev pub AnySize : Type 0
AnySize =
    (s : List ℕ) → refusal_of s ≡ 0 → (a b : Packing) → Agreed a → Agreed b
    → (k : ℕ) → answer_of k (replies_by a s) fresh_position ≡ answer_of k (replies_by b s) fresh_position
