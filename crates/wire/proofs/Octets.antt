-- Numbers that are read from bytes are in range, and parts of bytes are bytes. Assumes nothing.
use mathlib.Core.List.{List, [], ◌∷◌, ◌++◌}
use Prim.Native.Nat.{ℕ, zero, suc, ◌^◌, ◌<◌}
use native.Mathlib.Nat.{pow-suc, one-le-pow, zero-lt-suc}
use native.Mathlib.Omega.{arith}
use lib.ListN.{take, drop}
use Rattle.wire.specs.Le.{le_at}
use Rattle.wire.specs.Octets.{Bytes}

-- a number of k bytes
pub in-range : (k : ℕ) (l : List ℕ) → Bytes l → le_at k l < 256 ^ k
unfolding le_at
in-range zero l h = omega arith
in-range (suc k) [] h = one-le-pow (suc k) 256 (zero-lt-suc 255)
in-range (suc k) (b ∷ l) h = let r = in-range k l h.1 in rw pow-suc (omega (arith, h.0))

pub bytes_drop : (n : ℕ) (l : List ℕ) → Bytes l → Bytes (drop n l)
bytes_drop zero l h = h
bytes_drop (suc n) [] h = tt
bytes_drop (suc n) (b ∷ l) h = bytes_drop n l h.1

pub bytes_take : (n : ℕ) (l : List ℕ) → Bytes l → Bytes (take n l)
bytes_take zero l h = tt
bytes_take (suc n) [] h = tt
bytes_take (suc n) (b ∷ l) h = (h.0, bytes_take n l h.1)

pub bytes-cat : (x y : List ℕ) → Bytes x → Bytes y → Bytes (x ++ y)
bytes-cat [] y h g = g
bytes-cat (b ∷ x) y h g = (h.0, bytes-cat x y h.1 g)
