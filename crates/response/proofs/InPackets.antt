-- What the cutting of a payload answers and leaves. Assumes nothing.
use mathlib.Core.Path.{◌≡◌, sym, ap, ◌∙◌}
use mathlib.Core.Bool.{true, false}
use mathlib.Core.List.{List}
use Prim.Native.Nat.{ℕ, ◌≤◌, ◌<◌}
use native.Mathlib.Omega.{arith}
use lib.Dec.{ltb}
use lib.ListN.{length}
use borrow.Author.Tests.{ne_eqb, lt-ltb, le-ltb, ltb-false, lt-leb}
use Rattle.wire.specs.Over.{Wrote}
use Rattle.wire.proofs.Cases.{by-test}
use Rattle.packet.specs.Cut.{packets_of}
use Rattle.packet.specs.Agreed.{is_packet_size, packets_length, whole_packets}
use Rattle.packet.proofs.Counts.{size-bounds, length-packets}
use Rattle.std.specs.Prelude.{Ok, Err}
use Rattle.response.specs.Answer.{first_of}
use Rattle.response.specs.Packets.{cut_refusal, cut_built, cut_buffer}

module _ (size : ℕ) (payload buf : List ℕ) where
  -- a refusal is answered, and leaves the buffer
  refused : (n : ℕ) → cut_refusal size payload (length buf) ≡ n → 1 ≤ n
      → (Err n ≡ cut_built size payload (length buf)) × (buf ≡ cut_buffer size payload buf)
  unfolding cut_built cut_buffer
  refused n e h = let no = ne_eqb n 0 (λ z. omega arith) in (rw (e, no), rw (e, no))

  pub wrong_size : is_packet_size size ≡ false → (Err 32 ≡ cut_built size payload (length buf)) × (buf ≡ cut_buffer size payload buf)
  unfolding cut_refusal first_of
  wrong_size h = refused 32 (rw h) (omega arith)

  module _ (ok : is_packet_size size ≡ true) where
    pub too_long : 65527 < length payload → (Err 17 ≡ cut_built size payload (length buf)) × (buf ≡ cut_buffer size payload buf)
    unfolding cut_refusal first_of
    too_long h = refused 17 (rw (ok, lt-ltb 65527 (length payload) h)) (omega arith)

    module _ (most : length payload ≤ 65527) (total : ℕ) (e : total ≡ packets_length size (length payload)) where
      long : length (packets_of size payload) ≡ total
      long = length-packets size payload (omega (arith, size-bounds size ok)) ∙ sym e

      pub too_short : length buf < total → (Err 20 ≡ cut_built size payload (length buf)) × (buf ≡ cut_buffer size payload buf)
      unfolding cut_refusal first_of
      too_short h = refused 20 (rw (ok, le-ltb 65527 (length payload) most, long, lt-ltb (length buf) total h)) (omega arith)

      pub written : {m : List ℕ} {to : ℕ} → total ≤ length buf → Wrote buf 0 (whole_packets size payload) m to
          → (Ok to ≡ cut_built size payload (length buf)) × (m ≡ cut_buffer size payload buf)
      unfolding cut_refusal first_of cut_built cut_buffer whole_packets
      written {m} {to} h w =
          let whole = lt-leb size 8 (omega (arith, size-bounds size ok)) in
          let v = rw whole at w in
          let end : to ≡ total = omega (arith, v.1.place, long) in
          let fits = le-ltb (length buf) total h in
          let short = le-ltb 65527 (length payload) most in
          (rw (ok, short, long, fits) (ap Ok end), rw (ok, short, long, fits) v.0)

-- no more bytes are written than are lent
pub cut_small : (size : ℕ) (payload : List ℕ) (lent n : ℕ) → cut_built size payload lent ≡ Ok n → n ≤ lent
unfolding cut_built cut_refusal first_of
cut_small size payload lent n e =
    by-test (is_packet_size size)
    (λ o. by-test (ltb 65527 (length payload))
    (λ l. let f = rw (o, l) at e in let z : ◌≡◌ {A = ℕ} 0 1 = cc in absurd (omega arith))
    (λ l. by-test (ltb lent (length (packets_of size payload)))
    (λ h. let f = rw (o, l, h) at e in let z : ◌≡◌ {A = ℕ} 0 1 = cc in absurd (omega arith))
    (λ h. let f = rw (o, l, h) at e in let q : length (packets_of size payload) ≡ n = cc in omega (arith, ltb-false lent (length (packets_of size payload)) h))))
    (λ o. let f = rw o at e in let z : ◌≡◌ {A = ℕ} 0 1 = cc in absurd (omega arith))
