-- What a builder that was not refused says of its script and of the lent bytes. Assumes nothing.
use mathlib.Core.Path.{◌≡◌}
use mathlib.Core.List.{List}
use Prim.Native.Nat.{ℕ, ◌+◌, ◌≤◌}
use native.Mathlib.Omega.{arith}
use lib.Dec.{eqb, ltb}
use lib.ListN.{length, take, drop}
use lib.Seq.{take_at}
use borrow.Author.Tests.{ltb-false, eqb-true}
use Rattle.std.specs.Prelude.{Result, Ok, Err}
use Rattle.wire.proofs.Cases.{by-test, clash}
use Rattle.wire.specs.Over.{overwrite}
use Rattle.wire.proofs.Over.{over-eq}
use Rattle.emission.specs.Refusal.{refusal_of}
use Rattle.result.specs.Built.{room_for, fitted}

-- what is written is the room, and there are as many bytes
pub fitted-is : (r : Result ℕ ℕ) (m n : ℕ) → fitted r m ≡ Ok n → (r ≡ Ok n) × (n ≤ m)
fitted-is (Ok k) m n e =
    by-test (ltb m k)
    (λ g. let c = rw g at e in clash (cc))
    (λ g. let c = rw g at e in let z : k ≡ n = cc in (c, omega (arith, ltb-false m k g)))
fitted-is (Err f) m n e = clash (cc)

-- the script was accepted, and the room is the length of what is sent
pub accepted-by : (s bytes : List ℕ) (n : ℕ) → room_for s bytes ≡ Ok n → (refusal_of s ≡ 0) × (length bytes ≡ n)
accepted-by s bytes n e =
    by-test (eqb (refusal_of s) 0)
    (λ h. let c = rw h at e in (eqb-true (refusal_of s) 0 h, cc))
    (λ h. let c = rw h at e in clash (cc))

-- what is left of the lent bytes begins with those written
pub left-first : (bytes b : List ℕ) (n : ℕ) → length bytes ≡ n → length bytes ≤ length b → take n (overwrite b 0 bytes) ≡ bytes
left-first bytes b n e h =
    let room : 0 + length bytes ≤ length b = omega arith in
    rw (over-eq bytes b 0 room) (take_at bytes (drop (0 + length bytes) b) n e)
