-- How long replies are: the bytes that a builder wrote, and room for a reply, are numbers that an i64 holds. Assumes nothing.
use Prim.Native.Nat.{ℕ, ◌^◌, ◌<◌, ◌≤◌}
use mathlib.Core.Path.{◌≡◌, refl, sym, ◌∙◌}
use mathlib.Core.List.{List}
use native.Mathlib.Omega.{arith}
use lib.Dec.{eqb, ltb}
use lib.ListN.{length}
use borrow.Author.Tests.{ltb-false, eqb-true}
use Rattle.wire.proofs.Cases.{by-test}
use Rattle.packet.specs.Cut.{packets_of}
use Rattle.packet.specs.Agreed.{is_packet_size}
use Rattle.packet.proofs.Sizes.{length-packet}
use Rattle.packet.proofs.Counts.{size-bounds, length-packets, length-bound}
use Rattle.emission.specs.Emission.{pieces, bytes_in, reply_of}
use Rattle.emission.specs.Refusal.{refusal_of}
use Rattle.std.specs.Prelude.{Result, Ok, Err}
use Rattle.refusals.specs.declared.Refusal.{Refusal}
use Rattle.refusals.specs.Refused.{numbered}
use Rattle.result.specs.Built.{replies_of, room_for, room_of, room_at, fitted, built_of, built_in_packets}
use Rattle.result.proofs.Builds.{not-long}

-- a builder writes no more than the bytes that are lent
abbrev Within : ℕ → Result ℕ ℕ → Type 0
Within n (Ok k) = k ≤ n
Within n (Err k) = n ≡ n

within : (r : Result ℕ ℕ) (n : ℕ) → Within n (fitted r n)
within (Ok k) n = by-test (ltb n k) (λ l. rw l refl) (λ l. rw l (ltb-false n k l))
within (Err f) n = refl

-- so its answer is small
short : (n k : ℕ) {b : Result ℕ Refusal} → n < 2 ^ 63 → Within n (numbered b) → b ≡ Ok k → k < 2 ^ 63
short n k h w e = let l : k ≤ n = rw e at w in omega arith

pub fits : {b : Result ℕ Refusal} (s : List ℕ) (n : ℕ) → n < 2 ^ 63 → numbered b ≡ built_of s n → (k : ℕ) → b ≡ Ok k → k < 2 ^ 63
unfolding built_of
fits s n h e k q = short n k h (rw e (within (room_of s) n)) q

pub fits-in-packets : {b : Result ℕ Refusal} (size : ℕ) (s : List ℕ) (n : ℕ) → n < 2 ^ 63 → numbered b ≡ built_in_packets size s n → (k : ℕ) → b ≡ Ok k → k < 2 ^ 63
unfolding built_in_packets
fits-in-packets size s n h e k q = short n k h (rw e (within (room_at size s) n)) q

-- so is room
within-for : (s bytes : List ℕ) (n : ℕ) → (refusal_of s ≡ 0 → length bytes ≤ n) → Within n (room_for s bytes)
within-for s bytes n h = by-test (eqb (refusal_of s) 0) (λ t. rw t (h (eqb-true (refusal_of s) 0 t))) (λ t. rw t refl)

pub room_fits : {r : Result ℕ Refusal} (s : List ℕ) → numbered r ≡ room_of s → (k : ℕ) → r ≡ Ok k → k < 2 ^ 63
unfolding room_of
room_fits s e k q = short 65535 k (omega arith) (rw e (within-for s (reply_of s) 65535 (not-long s))) q

within-at : (size : ℕ) (s : List ℕ) → Within 1000000 (room_at size s)
unfolding room_at replies_of reply_of
within-at size s =
    let p = bytes_in (pieces s) in
    by-test (is_packet_size size)
    (λ o. let b = size-bounds size o in
    rw o (within-for s (packets_of size p) 1000000
    (λ e. omega (arith, not-long s e, length-packet p, length-packets size p (omega arith), length-bound size (length p)))))
    (λ o. rw o refl)

pub room-in-packets-fits : {r : Result ℕ Refusal} (size : ℕ) (s : List ℕ) → numbered r ≡ room_at size s → (k : ℕ) → r ≡ Ok k → k < 2 ^ 63
room-in-packets-fits size s e k q = short 1000000 k (omega arith) (rw e (within-at size s)) q
