-- The 16-bit units of a text. Document 01: texts are UTF-16LE (RFC 2781, 4.2). Rests on wire's numbers.
use Rattle.std.specs.Prelude.{ℕ, ◌+◌, List, [], ◌∷◌, Bool, ◌&&◌, leb, length}
use Rattle.wire.specs.Le.{le_at}

-- the units of a text: two bytes are a unit, the lower first, and an odd last byte is dropped
unfoldable pub units_of : List ℕ → List ℕ
units_of [] = []
units_of (a ∷ []) = []
units_of (a ∷ b ∷ l) = le_at 2 (a ∷ b ∷ []) ∷ units_of l

-- how many units a text has
unfoldable pub units : List ℕ → ℕ
units s = length (units_of s)

-- the sum of what each unit counts
unfoldable pub total : (ℕ → ℕ) → List ℕ → ℕ
total count [] = 0
total count (u ∷ us) = count u + total count us

-- a unit from lo to hi
abbrev pub within : ℕ → ℕ → ℕ → Bool
within lo hi u = leb lo u && leb u hi
