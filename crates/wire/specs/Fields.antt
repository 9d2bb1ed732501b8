-- Bytes as fields, the form that writers and the reader share. Rests on Le.
use Rattle.std.specs.Prelude.{ℕ, List, [], ◌∷◌, ◌++◌}
use Rattle.wire.specs.Le.{le}

-- a number in k bytes, the lowest first, or bytes as they are
pub data Field : Type 0 where
  word : (k n : ℕ) → Field
  raw : List ℕ → Field

-- the bytes of fields, one after another
unfoldable pub flat : List Field → List ℕ
flat [] = []
flat (word k n ∷ fs) = le k n ++ flat fs
flat (raw xs ∷ fs) = xs ++ flat fs
