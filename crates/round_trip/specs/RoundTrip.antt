-- The round trip (document 01, 'What a script emits', 'The reply reader'; document 02, 2026-02): what the reply builder writes for a
-- script that fits, as one packet or in packets of a size, is what the reply reader reads. Rests on result's builders, fit's check,
-- payload's packets and reader's run, on their definitions alone.
use Rattle.std.specs.Prelude.{Result, Ok, None, ℕ, ◌≡◌, List, map, length, take}
use Rattle.token.specs.Tokens.{Token, Value, states}
use Rattle.emission.specs.Emission.{emitted}
use Rattle.result.specs.Built.{built_of, buffer_of, built_in_packets, buffer_in_packets}
use Rattle.fit.specs.Misfits.{fit_of}
use Rattle.payload.specs.Packets.{packets_in, payload_of}
use Rattle.reader.specs.Positions.{fresh_position}
use Rattle.reader.specs.Reader.{answer_of}
use Rattle.reader.specs.Meaning.{meaning_of, kth}
use Rattle.wire.specs.Octets.{Bytes}

-- how a reply is sent: as one packet, or in packets of a size
pub data Packing : Type 0 where
  single : Packing
  sized : (size : ℕ) → Packing

-- what the builder answers for a script s where so many bytes are lent, and what it leaves of the lent bytes b
abbrev pub built_by : Packing → List ℕ → ℕ → Result ℕ ℕ
built_by single s n = built_of s n
built_by (sized size) s n = built_in_packets size s n

abbrev pub buffer_by : Packing → List ℕ → List ℕ → List ℕ
buffer_by single s b = buffer_of s b
buffer_by (sized size) s b = buffer_in_packets size s b

-- the packets of n bytes that the builder left for a script s in a lent buffer that held b
abbrev pub packets_left : Packing → List ℕ → List ℕ → ℕ → List ℕ
packets_left how s b n = take n (buffer_by how s b)

-- A script of bytes that the builder accepted, writing n bytes over the lent b, and that fits: 'a call of the reply builder that is
-- not refused accepts its script; the packet is what it writes'.
pub record Sent (how : Packing) (s b : List ℕ) (n : ℕ) : Type 0 where
  pub bytes : Bytes s
  pub built : built_by how s (length b) ≡ Ok n
  pub fits : fit_of s ≡ Ok None

-- Packets read as some tokens: the nth step hands out the nth token, in every field, and the end from then on. This is one claim
-- about the whole run, for every k from 0: 'a run starts at the fresh position, just past the header with no column types held; each
-- step gets the position the last one handed back, or after end the same again, and nobody writes the packet'. So no step is refused,
-- no token is left out, and nothing else is read. Parts are those of the payload.
abbrev pub Reads : List ℕ → List (Token Value) → Type 0
Reads packets ts = (k : ℕ) → meaning_of (payload_of (packets_in packets)) (answer_of k packets fresh_position) ≡ kth ts k

-- Demand 3, of one packet and of packets of each size: what was sent of a script reads as the tokens that the script emits, with their
-- records' fields and their cells' values ('a part stands for the bytes in it, a Max part for its chunks' bytes joined').
abbrev pub RoundTrip : Type 0
RoundTrip = (how : Packing) (s b : List ℕ) (n : ℕ) → Sent how s b n → Reads (packets_left how s b n) (map states (emitted s))
