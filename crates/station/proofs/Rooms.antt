-- The rooms that are answered are just enough. Assumes nothing.
use Prim.Native.Nat.{ℕ, zero, suc}
use mathlib.Core.Path.{◌≡◌, ap}
use mathlib.Core.Bool.{true, false}
use Rattle.wire.proofs.Cases.{clash}
use Rattle.std.specs.Prelude.{Result, Ok, Err}
use Rattle.result.specs.Built.{room_of, room_at, built_of, built_in_packets, Enough}
use Rattle.result.proofs.JustEnough.{just_enough}
use Rattle.station.specs.Answer.{number_of, built_outcome}
use Rattle.station.specs.Results.{built_call, in_packets_call, room_call, room_in_packets_call, EnoughLent, RoomEnough}

lent-enough : (r : Result ℕ ℕ) (answer : ℕ → Result ℕ ℕ) → Enough r answer → EnoughLent (number_of (built_outcome r)) (λ m. number_of (built_outcome (answer m)))
unfolding number_of
lent-enough (Ok n) answer e = (λ m h. ap (λ (b : Result ℕ ℕ). number_of (built_outcome b)) (e.0 m h), λ m h. ap (λ (b : Result ℕ ℕ). number_of (built_outcome b)) (e.1 m h))
lent-enough (Err zero) answer e = let f : false ≡ true = e.0 in clash (cc)
lent-enough (Err (suc k)) answer e = λ m. ap (λ (b : Result ℕ ℕ). number_of (built_outcome b)) (e.1 m)

pub room-enough : RoomEnough
unfolding room_call built_call room_in_packets_call in_packets_call
room-enough s = (
  lent-enough (room_of s) (built_of s) (just_enough s).0,
  λ size. lent-enough (room_at size s) (built_in_packets size s) ((just_enough s).1 size),
)
