-- A script as its sets (document 01, 'The script'): a set with its columns, errors, infos and rows, a row with its cells, a cell with
-- its chunks. Rests on Records and Runs.
use Rattle.std.specs.Prelude.{ℕ, cond, List, [], ◌∷◌, eqb}
use Rattle.script.specs.Records.{Item, item, cut}
use Rattle.script.specs.Runs.{ahead}

-- a cell: the payload of its kind 5, and its chunks
pub record ScriptCell : Type 0 where
  pub value : List ℕ
  pub chunks : List (List ℕ)

-- a row: a kind 4 and the cells under it
pub record ScriptRow : Type 0 where
  pub cells : List ScriptCell

-- a set: its classification; its columns, its errors of kinds 7 and 8 and its infos by their payloads; its rows; and the kind 9
-- records, which stand in the last set alone
pub record ScriptSet : Type 0 where
  pub classification : List ℕ
  pub columns : List (List ℕ)
  pub leading : List (List ℕ)
  pub terminal : List (List ℕ)
  pub infos : List (List ℕ)
  pub rows : List ScriptRow
  pub trailing : List (List ℕ)

-- the payloads of all records of a kind
unfoldable pub every : ℕ → List Item → List (List ℕ)
every k [] = []
every k (cut ∷ rs) = []
every k (item j p ∷ rs) = cond (eqb j k) (p ∷ every k rs) (every k rs)

-- the cells that stand next, with chunks among them
unfoldable pub cells_in : List Item → List ScriptCell
cells_in [] = []
cells_in (cut ∷ rs) = []
cells_in (item k p ∷ rs) =
    cond (eqb k 5) (record { value = p; chunks = ahead 6 rs } ∷ cells_in rs) (cond (eqb k 6) (cells_in rs) [])

-- a row for each kind 4
unfoldable pub rows_in : List Item → List ScriptRow
rows_in [] = []
rows_in (cut ∷ rs) = []
rows_in (item k p ∷ rs) = cond (eqb k 4) (record { cells = cells_in rs } ∷ rows_in rs) (rows_in rs)

-- the records of a set: those up to the next
unfoldable pub up_to_set : List Item → List Item
up_to_set [] = []
up_to_set (cut ∷ rs) = []
up_to_set (item k p ∷ rs) = cond (eqb k 1) [] (item k p ∷ up_to_set rs)

-- a set of its classification and its records
abbrev pub set_of : List ℕ → List Item → ScriptSet
set_of p is = record {
  classification = p;
  columns = every 2 is;
  leading = every 7 is;
  terminal = every 8 is;
  infos = every 3 is;
  rows = rows_in is;
  trailing = every 9 is;
}

-- the sets of records
unfoldable pub sets_in : List Item → List ScriptSet
sets_in [] = []
sets_in (cut ∷ rs) = []
sets_in (item k p ∷ rs) = cond (eqb k 1) (set_of p (up_to_set rs) ∷ sets_in rs) (sets_in rs)
