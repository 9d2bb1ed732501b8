-- A lent buffer with bytes written over it, and what a writer leaves. Rests on nothing.
use Rattle.std.specs.Prelude.{ℕ, suc, ◌+◌, min, ◌≡◌, List, [], ◌∷◌, length, set}

-- l with xs from index at on; what would lie past the end is dropped
unfoldable pub overwrite : List ℕ → ℕ → List ℕ → List ℕ
overwrite l at [] = l
overwrite l at (x ∷ xs) = overwrite (set l at x) (suc at) xs

-- the place after xs that stand at the place at of the buffer l, or the buffer's end where that comes first
pub record PlaceAfter (l : List ℕ) (at : ℕ) (xs : List ℕ) (to : ℕ) : Type 0 where
  pub place : to ≡ min (at + length xs) (length l)

-- what a writer did that was to put xs at the place at of the buffer l: it left the buffer m and answered the place to
abbrev pub Wrote : List ℕ → ℕ → List ℕ → List ℕ → ℕ → Type 0
Wrote l at xs m to = (m ≡ overwrite l at xs) × PlaceAfter l at xs to
