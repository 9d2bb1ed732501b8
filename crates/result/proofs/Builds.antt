-- What the builder answers and leaves, from the measure of a script and what was written. Assumes nothing.
use mathlib.Core.Path.{◌≡◌, sym, ap, ◌∙◌}
use mathlib.Core.Bool.{true, false}
use mathlib.Core.List.{List, ◌++◌}
use Prim.Native.Nat.{ℕ, ◌≤◌, ◌<◌}
use native.Mathlib.Omega.{arith}
use lib.Dec.{eqb, ltb}
use lib.ListN.{length}
use borrow.Author.Tests.{eqb-true, eqb-false, ltb-false, lt-ltb, le-ltb}
use Rattle.wire.specs.Over.{Wrote, overwrite}
use Rattle.wire.proofs.Over.{then}
use Rattle.packet.specs.Reply.{packet_of, reply_header}
use Rattle.packet.proofs.Sizes.{length-packet}
use Rattle.std.specs.Prelude.{Ok, Err}
use Rattle.emission.specs.Emission.{pieces, bytes_in, reply_of}
use Rattle.emission.specs.Walk.{walked}
use Rattle.script.specs.Verdict.{verdict_of}
use Rattle.emission.specs.Refusal.{fault_in, refusal_of}
use Rattle.result.specs.Built.{room_of, built_of, buffer_of}
use Rattle.emission.proofs.BySets.{by-sets, no-verdict}
use Rattle.emission.specs.Length.{measure_of}
use Rattle.wire.proofs.Cases.{by-test}

-- a script that is not refused has a reply that a packet's length field can count
pub not-long : (s : List ℕ) → refusal_of s ≡ 0 → length (reply_of s) ≤ 65535
unfolding refusal_of
not-long s e =
    by-test (eqb (verdict_of s) 0)
    (λ t. by-test (eqb (fault_in (pieces s)) 0)
    (λ u. by-test (ltb 65535 (length (reply_of s))) (λ v. let f : ◌≡◌ {A = ℕ} 17 0 = rw (t, u, v) at e in absurd (omega arith)) (λ v. ltb-false 65535 (length (reply_of s)) v))
    (λ u. absurd (eqb-false (fault_in (pieces s)) 0 u (rw (t, u) at e))))
    (λ t. absurd (eqb-false (verdict_of s) 0 t (rw t at e)))

module _ (s : List ℕ) (buf : List ℕ) where
  -- a refused script
  module _ (f : ℕ) (e : measure_of s ≡ Err f) where
    pub is-refused : eqb (refusal_of s) 0 ≡ false
    unfolding measure_of
    is-refused = by-test (eqb (refusal_of s) 0) (λ t. let g = rw t at e in let z : ◌≡◌ {A = ℕ} 0 1 = cc in absurd (omega arith)) (λ t. t)

    pub number_is : refusal_of s ≡ f
    unfolding measure_of
    number_is = let g = rw is-refused at e in cc

    room-refused : Err f ≡ room_of s
    unfolding room_of measure_of
    room-refused = sym e

    pub refused-answer : Err f ≡ built_of s (length buf)
    unfolding built_of
    refused-answer = rw (← room-refused)

    pub refused-buffer : buf ≡ buffer_of s buf
    unfolding buffer_of
    refused-buffer = rw (← refused-answer)

  -- a script of a size
  module _ (n : ℕ) (e : measure_of s ≡ Ok n) where
    pub is-accepted : eqb (refusal_of s) 0 ≡ true
    unfolding measure_of
    is-accepted = by-test (eqb (refusal_of s) 0) (λ t. t) (λ t. let g = rw t at e in let z : ◌≡◌ {A = ℕ} 0 1 = cc in absurd (omega arith))

    pub size_is : length (reply_of s) ≡ n
    unfolding measure_of
    size_is = let g = rw is-accepted at e in cc

    room-size : Ok n ≡ room_of s
    unfolding room_of measure_of
    room-size = sym e

    -- which a packet's length field can count
    pub fits : n ≤ 65535
    fits = rw size_is at (not-long s (eqb-true (refusal_of s) 0 is-accepted))

    pub short-answer : length buf < n → Err 20 ≡ built_of s (length buf)
    unfolding built_of
    short-answer h = rw (← room-size, lt-ltb (length buf) n h)

    pub short-buffer : length buf < n → buf ≡ buffer_of s buf
    unfolding buffer_of
    short-buffer h = rw (← short-answer h)

    pub written-answer : n ≤ length buf → Ok n ≡ built_of s (length buf)
    unfolding built_of
    written-answer h = rw (← room-size, le-ltb (length buf) n h)

    reply-is : reply_header n ++ bytes_in (pieces s) ≡ reply_of s
    unfolding reply_of packet_of
    reply-is = ap (λ (k : ℕ). reply_header k ++ bytes_in (pieces s)) (sym size_is ∙ length-packet (bytes_in (pieces s)))

    pub written-buffer : {m k : List ℕ} {at to : ℕ} → n ≤ length buf → Wrote buf 0 (reply_header n) m at → Wrote m at (bytes_in (walked s)) k to → k ≡ buffer_of s buf
    unfolding buffer_of
    written-buffer h w v = rw (← written-answer h) ((then w (rw (← by-sets s (no-verdict s (eqb-true (refusal_of s) 0 is-accepted))) at v)).0 ∙ ap (overwrite buf 0) reply-is)
