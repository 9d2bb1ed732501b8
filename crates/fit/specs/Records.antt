-- What the fit check's loops go by: the misfits of a script's records, one after another. Of an accepted script they are those of
-- its sets (proofs/BySets). Rests on Misfits.
use Rattle.std.specs.Prelude.{ℕ, suc, List, [], ◌∷◌, ◌++◌, map, Bool, true, false, cond, eqb}
use Rattle.std.proofs.Math.Option.{Option, none, some}
use Rattle.script.specs.Records.{Item, item, cut}
use Rattle.script.specs.Runs.{ahead}
use Rattle.emission.specs.Walk.{error_in, rows_after}
use Rattle.fit.specs.declared.Misfit.{Misfit}
use Rattle.fit.specs.declared.Misfit.TheVariants.{Column, Cell}
use Rattle.fit.specs.Misfits.{wrong_in_row, wrong_columns, types_in, classification_misfits}

-- a row's cells: the payloads of the kind 5 records that stand next, with chunks among them
unfoldable pub cells_in : List Item → List (List ℕ)
cells_in [] = []
cells_in (cut ∷ rs) = []
cells_in (item k p ∷ rs) = cond (eqb k 5) (p ∷ cells_in rs) (cond (eqb k 6) (cells_in rs) [])

-- the misfits of a set's beginning: its classification p, then the columns that stand next
unfoldable pub begin_misfits : ℕ → List ℕ → List Item → List Misfit
begin_misfits set p rs = classification_misfits set p ++ map (Column set) (wrong_columns (ahead 2 rs))

-- the misfits of a row
unfoldable pub cell_misfits : ℕ → ℕ → List ℕ → List Item → List Misfit
cell_misfits set row types rs = map (Cell set row) (wrong_in_row types (cells_in rs))

-- the misfits that stand with a record after the first set's; rs are the records after it, set the number of its set, row
-- that of the next row, types those of the set's columns
unfoldable pub misfits_at : ℕ → ℕ → List ℕ → ℕ → List ℕ → List Item → List Misfit
misfits_at set row types k p rs = cond (eqb k 1) (begin_misfits (suc set) p rs) (cond (eqb k 4) (cell_misfits set row types rs) [])

-- set and types after a record
abbrev pub set_after : ℕ → ℕ → ℕ
set_after set k = cond (eqb k 1) (suc set) set

abbrev pub types_after : List ℕ → ℕ → List Item → List ℕ
types_after types k rs = cond (eqb k 1) (types_in (ahead 2 rs)) types

-- the misfits of the records after the first set's
unfoldable pub misfits_from : ℕ → ℕ → List ℕ → List Item → List Misfit
misfits_from set row types [] = []
misfits_from set row types (cut ∷ rs) = []
misfits_from set row types (item k p ∷ rs) =
    misfits_at set row types k p rs ++ misfits_from (set_after set k) (rows_after row k) (types_after types k rs) rs

-- the misfits of the sets from one on, whose number is set, and its classification p
abbrev pub set_from : ℕ → List ℕ → List Item → List Misfit
set_from set p rs = begin_misfits set p rs ++ misfits_from set 0 (types_in (ahead 2 rs)) rs

unfoldable pub sets_from : ℕ → List Item → List Misfit
sets_from set [] = []
sets_from set (cut ∷ rs) = []
sets_from set (item k p ∷ rs) = set_from set p rs

abbrev pub is_there : Option (List ℕ) → Bool
is_there none = false
is_there (some p) = true

-- a terminal script: kind 8 in its first set
unfoldable pub terminal : List Item → Bool
terminal [] = false
terminal (cut ∷ rs) = false
terminal (item k p ∷ rs) = is_there (error_in 8 rs)

-- all misfits of a script: by set, in a set its classification, its columns, its cells by row and column; none in a terminal script
unfoldable pub misfits_in : List Item → List Misfit
misfits_in rs = cond (terminal rs) [] (sets_from 0 rs)
