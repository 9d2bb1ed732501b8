-- Numbers as little-endian bytes, at any width (MS-TDS 2.2.5.1.1: USHORT, LONG, ULONGLONG are little-endian unless said otherwise).
-- Rests on nothing.
use Rattle.std.specs.Prelude.{ℕ, zero, suc, ◌+◌, ◌*◌, ◌/◌, ◌%◌, List, [], ◌∷◌}

-- the number that the first k bytes of a list are, the lowest first; a byte past the end counts 0
unfoldable pub le_at : ℕ → List ℕ → ℕ
le_at zero l = 0
le_at (suc k) [] = 0
le_at (suc k) (b ∷ l) = le_at k l * 256 + b

-- the k low bytes of a number, the lowest first
unfoldable pub le : ℕ → ℕ → List ℕ
le zero v = []
le (suc k) v = v % 256 ∷ le k (v / 256)
