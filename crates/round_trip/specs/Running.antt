-- The round trip of running code: what a function answers that builds a reply and steps over it (`kth_token`, `kth_token_in_packets`). Rests on RoundTrip.
use Rattle.std.specs.Prelude.{Option, Result, Ok, Err, None, ℕ, ◌≡◌, List, map, length, take}
use Rattle.token.specs.Tokens.{states}
use Rattle.refusals.specs.declared.Refusal.{Refusal}
use Rattle.refusals.specs.Refused.{number, numbered}
use Rattle.reader.specs.declared.Token.{Token}
use Rattle.emission.specs.Emission.{emitted}
use Rattle.fit.specs.Misfits.{fit_of}
use Rattle.payload.specs.Packets.{packets_in, payload_of}
use Rattle.reader.specs.Positions.{fresh_position}
use Rattle.reader.specs.Reader.{Answer, answer_of}
use Rattle.reader.specs.Meaning.{Meaning, refusal, meaning_of, kth}
use Rattle.round_trip.specs.RoundTrip.{Packing, built_by, packets_left}

-- an answer of a run with the numbers of its refusals, or that of the script's
abbrev pub numbered_kth : Result (Result (Option Token) Refusal) Refusal → Result Answer ℕ
numbered_kth (Ok a) = Ok (numbered a)
numbered_kth (Err r) = Err (number r)

-- the k-th answer over what the builder left in a buffer, or its refusal
unfoldable pub kth_of : Result ℕ ℕ → List ℕ → ℕ → Result Answer ℕ
kth_of (Ok n) buf k = Ok (answer_of k (take n buf) fresh_position)
kth_of (Err f) buf k = Err f

-- what it tells
abbrev pub told_in : List ℕ → Result Answer ℕ → Meaning
told_in packets (Ok a) = meaning_of (payload_of (packets_in packets)) a
told_in packets (Err f) = refusal f

-- Of a script that was built over the lent b and fits, it tells the k-th token that the script emits, in every field, and the end from
-- then on. A contract has this for every k, and so the whole run.
abbrev pub ReadBack : Packing → List ℕ → List ℕ → ℕ → Result Answer ℕ → Type 0
ReadBack how s b k r = (n : ℕ) → built_by how s (length b) ≡ Ok n → fit_of s ≡ Ok None → told_in (packets_left how s b n) r ≡ kth (map states (emitted s)) k
