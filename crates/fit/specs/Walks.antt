-- What the walks of the fit check hand to each other: each goes over records from a place on, and either all are right, or
-- one is wrong, and it is the first. Rests on Misfits.
use Rattle.std.specs.Prelude.{Option, Some, None, Result, Ok, Err, ℕ, suc, ◌≤◌, ◌≡◌, List, [], ◌∷◌, Bool, true, cond, not, ltb, length, take, drop}
use Rattle.script.specs.Records.{records}
use Rattle.script.specs.Runs.{ahead}
use Rattle.fit.specs.Misfits.{cell_fits, wrong_in_row, wrong_columns, types_in, first_of}
use Rattle.fit.specs.Records.{cells_in, misfits_from, sets_from}
use Rattle.fit.specs.declared.Misfit.{Misfit}
use Rattle.fit.specs.declared.Columns.{Columns}

-- the records between two places have no misfit of their own, in whatever set and row they stand
abbrev pub Skips : List ℕ → ℕ → ℕ → Type 0
Skips s from to =
    (from ≤ to) × ((set row : ℕ) (types : List ℕ) → misfits_from set row types (records (drop from s)) ≡ misfits_from set row types (records (drop to s)))

-- n is the first of some numbers
abbrev pub First : List ℕ → ℕ → Type 0
First ns n = (more : List ℕ) × (ns ≡ n ∷ more)

-- a cell is wrong where no column is left for it, or it is not of the first one's type
unfoldable pub cell_wrong : List ℕ → List ℕ → Bool
cell_wrong [] p = true
cell_wrong (t ∷ ts) p = not (cell_fits t p)

-- at the end of a row whose cells are right: wrong where there are more columns
unfoldable pub row_end : ℕ → ℕ → ℕ → Result ℕ ℕ
row_end cells columns at = cond (ltb cells columns) (Err cells) (Ok at)

-- a row's cells: the place after them, or the first misfit
abbrev pub RowWalked : List ℕ → ℕ → List ℕ → Result ℕ ℕ → Type 0
RowWalked s from types (Ok to) = (wrong_in_row types (cells_in (records (drop from s))) ≡ []) × Skips s from to
RowWalked s from types (Err n) = First (wrong_in_row types (cells_in (records (drop from s)))) n

-- a set's columns: how many there are, with their types, and the place after them; or they are too many
abbrev pub ColumnsWalked : List ℕ → ℕ → List ℕ → Option Columns → Type 0
ColumnsWalked s from types (Some c) =
    (c.count ≤ length types) × (wrong_columns (ahead 2 (records (drop from s))) ≡ []) × (types_in (ahead 2 (records (drop from s))) ≡ take c.count types) × Skips s from c.next
ColumnsWalked s from types None = wrong_columns (ahead 2 (records (drop from s))) ≡ 128 ∷ []

-- the first misfit of the sets from one on, whose number is set: its own, or that of the sets after it
abbrev pub goes_on : List ℕ → ℕ → Result ℕ Misfit → Option Misfit
goes_on s set (Ok to) = first_of (sets_from (suc set) (records (drop to s)))
goes_on s set (Err m) = Some m

-- a set ends after its beginning
abbrev pub Onward : ℕ → Result ℕ Misfit → Type 0
Onward from (Ok to) = from ≤ to
Onward from (Err m) = Unit {0}

-- a set: the place after it, or its first misfit; ms are the misfits of the records from the place on
abbrev pub SetWalked : List ℕ → ℕ → ℕ → List Misfit → Result ℕ Misfit → Type 0
SetWalked s set from ms r = (first_of ms ≡ goes_on s set r) × Onward from r
