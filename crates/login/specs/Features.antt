-- The features of a login (MS-TDS 2.2.6.4, FeatureExt): an id (1 byte), a length (4 bytes) and data, until the terminator FF.
-- Rests on Body.
use Rattle.std.specs.Prelude.{ℕ, zero, suc, ◌+◌, List, [], ◌∷◌, map, cond, eqb}
use Rattle.wire.specs.Le.{le_at}
use Rattle.login.specs.declared.Feature.{Feature}
use Rattle.login.specs.Body.{features_at}

-- The features in the bytes that stand from a place of the body on, of which the first n, the data of the feature before,
-- are passed over. Fewer than five bytes are no feature. A feature whose data run past the end counts, as in the Rust, and is
-- the last.
unfoldable pub walk : (at n : ℕ) → List ℕ → List Feature
unfolding le_at
walk at (suc n) [] = []
walk at (suc n) (b ∷ l) = walk (suc at) n l
walk at zero [] = []
walk at zero (a ∷ []) = []
walk at zero (a ∷ b ∷ []) = []
walk at zero (a ∷ b ∷ c ∷ []) = []
walk at zero (a ∷ b ∷ c ∷ d ∷ []) = []
walk at zero (a ∷ b ∷ c ∷ d ∷ e ∷ l) =
    let n = le_at 4 (b ∷ c ∷ d ∷ e ∷ []) in
    cond (eqb a 0xff) [] (record { id = a; part = record { start = at + 5; len = n } } ∷ walk (at + 5) n l)

-- the features of a login: those after all that stands before the first
unfoldable pub features : List ℕ → List Feature
features s = walk 0 (features_at s) s

-- the ids of some features, in their order
unfoldable pub ids_of : List Feature → List ℕ
ids_of fs = map (λ f. f.id) fs
