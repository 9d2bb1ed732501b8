-- What is read does not depend on the size chosen: the packets of a payload have it as theirs, and what is read rests on that alone; a
-- script's packets are those of its payload. Assumes nothing.
use Prim.Native.Nat.{ℕ, ◌≤◌, ◌<◌}
use mathlib.Core.Path.{◌≡◌, refl, sym, ap, ◌∙◌}
use mathlib.Core.List.{List, [], ◌∷◌}
use native.Mathlib.Omega.{arith}
use lib.ListN.{length}
use Rattle.packet.specs.Cut.{cut_from, packets_of}
use Rattle.emission.specs.Emission.{pieces, bytes_in}
use Rattle.payload.specs.Packets.{Packets, packet, stop, packets_in, payload_of, source_of}
use Rattle.payload.proofs.Joined.{Whole, joined}
use Rattle.reader.specs.Positions.{fresh_position}
use Rattle.reader.specs.Reader.{answer_of}
use Rattle.reader.proofs.Twins.{Begun, same-answers}
use Rattle.round_trip.specs.AnySize.{AnyPayload, AnySize}
use Rattle.round_trip.proofs.RoundTrip.{cut_at}

-- packets that hold something begin with one
begun-by : (l p : List ℕ) (qs : Packets) → packets_in l ≡ qs → Whole (packets_in l) p → 1 ≤ length p → Begun l
unfolding payload_of
begun-by l p (stop s) e w h = absurd (omega (arith, ap length (sym w.payload ∙ ap payload_of e)))
begun-by l p (packet q last qs) e w h = record { first = q; last = last; more = qs; is = e }

-- one payload, and the end after it, is one source
one-source : (ps qs : Packets) (p : List ℕ) → Whole ps p → Whole qs p → source_of ps ≡ source_of qs
unfolding source_of
one-source ps qs p v w = rw (v.payload, w.payload, v.ends, w.ends) refl

-- a payload of a byte or more
some-payload : (p : List ℕ) → 1 ≤ length p → (m n : ℕ) → 9 ≤ m → m < 65536 → 9 ≤ n → n < 65536
    → (k : ℕ) → answer_of k (packets_of m p) fresh_position ≡ answer_of k (packets_of n p) fresh_position
some-payload p some m n am bm an bn k =
    let v = joined m p am bm some in
    let w = joined n p an bn some in
    same-answers (begun-by (packets_of m p) p (packets_in (packets_of m p)) refl v some) (begun-by (packets_of n p) p (packets_in (packets_of n p)) refl w some)
    (one-source (packets_in (packets_of m p)) (packets_in (packets_of n p)) p v w) k

no-packets : (size : ℕ) → packets_of size [] ≡ []
unfolding packets_of cut_from
no-packets size = refl

pub any-payload : AnyPayload
any-payload [] m n am bm an bn k = rw (no-packets m, no-packets n)
any-payload (b ∷ p) m n am bm an bn k = some-payload (b ∷ p) (omega arith) m n am (omega arith) an (omega arith) k

pub any-size : AnySize
any-size s e a b ga gb k =
    let x = cut_at a s e ga in
    let y = cut_at b s e gb in
    rw (x.is, y.is) (any-payload (bytes_in (pieces s)) x.size y.size x.least x.most y.least y.most k)
