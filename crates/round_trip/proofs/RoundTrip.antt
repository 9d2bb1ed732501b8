-- The round trip: the packets that the builder leaves have the payload of the tokens that the script emits, which are well formed and
-- so read back. Assumes nothing.
use mathlib.Core.Path.{◌≡◌, refl, ap}
use mathlib.Core.Bool.{Bool, true, false, cond}
use mathlib.Core.List.{List, [], ◌∷◌, ◌++◌}
use Prim.Native.Nat.{ℕ, ◌+◌, ◌≤◌, ◌<◌}
use native.Mathlib.Omega.{arith}
use lib.ListN.{length}
use Rattle.wire.proofs.Cases.{clash}
use Rattle.packet.specs.Agreed.{is_packet_size}
use Rattle.packet.specs.Cut.{packets_of}
use Rattle.packet.proofs.Sizes.{length-packet}
use Rattle.packet.proofs.Counts.{size-bounds}
use Rattle.token.specs.Tokens.{metadata}
use Rattle.script.specs.declared.Stage.TheVariants.{Start}
use Rattle.script.specs.Records.{Item, item, cut, records}
use Rattle.script.specs.Verdict.{verdict_from, verdict_of}
use Rattle.std.specs.Prelude.{Result, Ok, Err}
use Rattle.result.proofs.Fitted.{fitted-is, accepted-by, left-first}
use Rattle.emission.specs.Emission.{pieces, bytes_in, column_pieces, classification_piece, leading_status, terminal_status, emitted, reply_of}
use Rattle.emission.specs.Walk.{begin_pieces, emit_from, error_in, lead_pieces, walked_by, walked}
use Rattle.emission.specs.Refusal.{refusal_of}
use Rattle.emission.proofs.BySets.{by-sets}
use Rattle.emission.proofs.Sizes.{size-told, size-cat, size-metadata}
use Rattle.emission.proofs.Replies.{size-error}
use Rattle.script.specs.Runs.{ahead}
use Rattle.result.specs.Built.{replies_of, room_of, room_at, built_of, buffer_of, built_in_packets, buffer_in_packets}
use Rattle.payload.specs.Packets.{packets_in}
use Rattle.payload.proofs.Joined.{Whole, one-packet}
use Rattle.payload.proofs.Joined as cuts
use Rattle.reader.proofs.ReadBack.{reads-back}
use Rattle.round_trip.specs.RoundTrip.{Packing, single, sized, built_by, packets_left, RoundTrip}
use Rattle.round_trip.specs.AnySize.{replies_by, Agreed}
use Rattle.round_trip.proofs.Accepted.{by-error}
use Rattle.round_trip.proofs.Formed.{emitted-well-formed, not-refused}
use Rattle.round_trip.proofs.Bare.{payload-is}

-- ---- what a builder wrote

-- a script that was not refused, in packets of a size that can be agreed
pub record Written-as (how : Packing) (s : List ℕ) (m n : ℕ) : Type 0 where
  pub agreed : Agreed how
  pub accepted : refusal_of s ≡ 0
  pub size : length (replies_by how s) ≡ n
  pub room : length (replies_by how s) ≤ m

agreed-by : (agreed : Bool) (b : Result ℕ ℕ) (f : ℕ) {n : ℕ} → cond agreed b (Err f) ≡ Ok n → (agreed ≡ true) × (b ≡ Ok n)
agreed-by true b f e = (refl, e)
agreed-by false b f e = clash (cc)

pub written : (how : Packing) (s : List ℕ) (m n : ℕ) → built_by how s m ≡ Ok n → Written-as how s m n
unfolding built_of built_in_packets room_of room_at
written single s m n e =
    let f = fitted-is (room_of s) m n e in
    let w = accepted-by s (reply_of s) n f.0 in
    record { agreed = tt; accepted = w.0; size = w.1; room = omega (arith, w.1, f.1) }
written (sized size) s m n e =
    let f = fitted-is (room_at size s) m n e in
    let a = agreed-by (is_packet_size size) _ 32 f.0 in
    let w = accepted-by s (replies_of size s) n a.1 in
    record { agreed = a.0; accepted = w.0; size = w.1; room = omega (arith, w.1, f.1) }

pub left_is : (how : Packing) (s b : List ℕ) (n : ℕ) → built_by how s (length b) ≡ Ok n → packets_left how s b n ≡ replies_by how s
unfolding buffer_of buffer_in_packets
left_is single s b n e = let w = written single s (length b) n e in rw e (left-first (reply_of s) b n w.size w.room)
left_is (sized size) s b n e = let w = written (sized size) s (length b) n e in rw e (left-first (replies_of size s) b n w.size w.room)

-- ---- the payload of an accepted script

begins-some : (p : List ℕ) (rs : List Item) → 3 ≤ length (bytes_in (begin_pieces p rs))
begins-some p rs =
    omega (arith, size-told (metadata (length (ahead 2 rs))) (column_pieces (ahead 2 rs) ++ (classification_piece p ∷ [])), size-metadata (length (ahead 2 rs)))

walk-some : (rs : List Item) → verdict_from Start rs ≡ 0 → 1 ≤ length (bytes_in (walked_by rs))
unfolding verdict_from walked_by
walk-some [] e = absurd (omega arith)
walk-some (cut ∷ rs) e = absurd (omega arith)
walk-some (item k p ∷ rs) e =
    let lead = lead_pieces leading_status (error_in 7 rs) in
    by-error (error_in 8 rs)
    (λ h. rw h (omega (arith, size-cat lead (begin_pieces p rs ++ emit_from 0 rs), size-cat (begin_pieces p rs) (emit_from 0 rs), begins-some p rs)))
    (λ x h. rw h (omega (arith, size-error terminal_status x)))

-- it has a byte or more, and one packet could have it
pub payload-some : (s : List ℕ) → refusal_of s ≡ 0 → 1 ≤ length (bytes_in (pieces s))
unfolding verdict_of walked
payload-some s e = let v = (not-refused s e).0 in rw (by-sets s v) (walk-some (records s) v)

pub payload-short : (s : List ℕ) → refusal_of s ≡ 0 → 8 + length (bytes_in (pieces s)) < 65536
unfolding reply_of
payload-short s e = let r = (not-refused s e).2 in omega (arith, length-packet (bytes_in (pieces s)))

-- however it was sent, it is that payload, cut at some size
pub record CutAt (how : Packing) (s : List ℕ) : Type 0 where
  pub size : ℕ
  pub least : 9 ≤ size
  pub most : size ≤ 65535
  pub is : replies_by how s ≡ packets_of size (bytes_in (pieces s))

pub cut_at : (how : Packing) (s : List ℕ) → refusal_of s ≡ 0 → Agreed how → CutAt how s
unfolding reply_of replies_of
cut_at single s e a =
    let p = bytes_in (pieces s) in
    record { size = 8 + length p; least = omega (arith, payload-some s e); most = omega (arith, payload-short s e); is = one-packet p (payload-some s e) }
cut_at (sized size) s e a =
    let b = size-bounds size a in
    record { size = size; least = omega (arith, b.0); most = omega (arith, b.1); is = refl }

-- and joined again
pub replies-whole : (how : Packing) (s : List ℕ) → refusal_of s ≡ 0 → Agreed how → Whole (packets_in (replies_by how s)) (bytes_in (pieces s))
replies-whole how s e a =
    let c = cut_at how s e a in
    rw c.is (cuts.joined c.size (bytes_in (pieces s)) c.least (omega (arith, c.most)) (payload-some s e))

-- ---- the round trip

pub round_trip : RoundTrip
round_trip how s b n h k =
    let w = written how s (length b) n h.built in
    let q = payload-is s h.fits in
    let some = payload-some s w.accepted in
    let short = payload-short s w.accepted in
    rw (left_is how s b n h.built)
    (reads-back (replies_by how s) (emitted s) (emitted-well-formed s h.bytes h.fits) (rw q at (replies-whole how s w.accepted w.agreed))
    (omega (arith, ap length q)) (omega (arith, ap length q)) k)
