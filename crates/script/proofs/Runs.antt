-- What stands after the records of one kind that are ahead. Assumes nothing.
use Prim.Native.Nat.{ℕ}
use mathlib.Core.Bool.{cond}
use mathlib.Core.List.{List, [], ◌∷◌}
use lib.Dec.{eqb}
use Rattle.script.specs.Records.{Item, item, cut}

-- the records after those of kind k that stand next
unfoldable pub past_run : ℕ → List Item → List Item
past_run k [] = []
past_run k (cut ∷ rs) = cut ∷ rs
past_run k (item j p ∷ rs) = cond (eqb j k) (past_run k rs) (item j p ∷ rs)
