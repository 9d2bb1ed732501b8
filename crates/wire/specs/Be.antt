-- Numbers as big-endian bytes, at any width: the little-endian bytes in reverse. Document 01: the packet header, prelogin
-- answers, the login ack's TDS version and the error reply's length. Rests on Le.
use Rattle.std.specs.Prelude.{ℕ, zero, suc, List, [], ◌∷◌, reverse}
use Rattle.wire.specs.Le.{le, le_at}

-- the first k bytes of a list; a byte past the end is 0
unfoldable pub first : ℕ → List ℕ → List ℕ
first zero l = []
first (suc k) [] = 0 ∷ first k []
first (suc k) (b ∷ l) = b ∷ first k l

-- the number that the first k bytes of a list are, the highest first
unfoldable pub be_at : ℕ → List ℕ → ℕ
be_at k l = le_at k (reverse (first k l))

-- the k low bytes of a number, the highest first
unfoldable pub be : ℕ → ℕ → List ℕ
be k v = reverse (le k v)
