-- Records ahead: those of one kind that stand next. Rests on Records.
use Rattle.std.specs.Prelude.{ℕ, cond, List, [], ◌∷◌, eqb}
use Rattle.script.specs.Records.{Item, item, cut}

-- the payloads of the records of kind k that stand next: a set's columns, a cell's chunks
unfoldable pub ahead : ℕ → List Item → List (List ℕ)
ahead k [] = []
ahead k (cut ∷ rs) = []
ahead k (item j p ∷ rs) = cond (eqb j k) (p ∷ ahead k rs) []
