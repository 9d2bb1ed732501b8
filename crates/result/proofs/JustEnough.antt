-- The room is just enough for both builders. Assumes nothing.
use mathlib.Core.Path.{◌≡◌, refl}
use mathlib.Core.Bool.{true}
use mathlib.Core.List.{List}
use Prim.Native.Nat.{ℕ}
use native.Mathlib.Omega.{arith}
use lib.Dec.{eqb}
use borrow.Author.Tests.{lt-ltb, le-ltb, le-leb, eqb-false}
use Rattle.wire.proofs.Cases.{by-test}
use Rattle.packet.specs.Agreed.{is_packet_size}
use Rattle.emission.specs.Emission.{reply_of}
use Rattle.emission.specs.Refusal.{refusal_of}
use Rattle.emission.proofs.Numbers.{refused-by-own}
use Rattle.std.specs.Prelude.{Result, Ok, Err}
use Rattle.result.specs.Built.{replies_of, room_for, room_of, room_at, fitted, built_of, built_in_packets, own_refusal, Enough, JustEnough}

-- a room whose refusals are those of rooms
abbrev Own : Result ℕ ℕ → Type 0
Own (Ok n) = n ≡ n
Own (Err f) = own_refusal f ≡ true

-- is just enough for what is fitted to it
enough : (r : Result ℕ ℕ) → Own r → Enough r (λ m. fitted r m)
enough (Ok n) own = (λ m h. rw (le-ltb m n h), λ m h. rw (lt-ltb m n (omega arith)))
enough (Err f) own = (own, λ m. refl)

own-for : (s bytes : List ℕ) → Own (room_for s bytes)
own-for s bytes =
    by-test (eqb (refusal_of s) 0)
    (λ t. rw t refl)
    (λ t. let own = refused-by-own s (eqb-false (refusal_of s) 0 t) in
    rw t (rw (le-leb 11 (refusal_of s) own.0, le-leb (refusal_of s) 17 own.1)))

own-one : (s : List ℕ) → Own (room_of s)
unfolding room_of
own-one s = own-for s (reply_of s)

own_at : (size : ℕ) (s : List ℕ) → Own (room_at size s)
unfolding room_at
own_at size s = by-test (is_packet_size size) (λ o. rw o (own-for s (replies_of size s))) (λ o. rw o refl)

pub just_enough : JustEnough
unfolding built_of built_in_packets
just_enough s = (enough (room_of s) (own-one s), λ size. enough (room_at size s) (own_at size s))
