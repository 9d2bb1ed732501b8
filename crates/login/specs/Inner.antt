-- What the private functions of this crate promise each other. Rests on Features.
use Rattle.std.specs.Prelude.{ℕ, ◌+◌, ◌≤◌, ◌≡◌, List, [], ◌∷◌, length, drop, Option, Some, None}
use Rattle.login.specs.declared.Feature.{Feature}
use Rattle.login.specs.Features.{walk}

-- the features from a place on
unfoldable pub features_from : List ℕ → ℕ → List Feature
features_from s at = walk at 0 (drop at s)

-- the feature that was found at a place, and those after it
unfoldable pub follow : List ℕ → Option Feature → List Feature
follow s (Some f) = f ∷ features_from s (f.part.start + f.part.len)
follow s None = []

-- where a feature that was found at a place lies: its data start within the body, after its head
unfoldable pub Lies : List ℕ → ℕ → Option Feature → Type 0
Lies s at (Some f) = (f.part.start ≡ at + 5) × (at + 5 ≤ length s)
Lies s at None = Unit {0}
