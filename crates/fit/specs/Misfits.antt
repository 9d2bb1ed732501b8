-- Which scripts fit, and which misfits the others have (document 01, 'The script': 'fits' and 'misfit' are its terms). Sets,
-- rows, columns and cells are numbered from 0. Rests on script's sets and emission's refusals.
-- docs/FORMATS.md, 'What fits', has it in words.
use Rattle.std.specs.Prelude.{Option, Some, None, Result, Ok, Err, ℕ, suc, List, [], ◌∷◌, ◌++◌, map, Bool, cond, ◌&&◌, eqb, leb, length, drop}
use Rattle.wire.specs.Le.{le_at}
use Rattle.script.specs.Records.{records}
use Rattle.script.specs.Sets.{ScriptCell, ScriptRow, ScriptSet, sets_in}
use Rattle.emission.specs.Refusal.{refusal_of}
use Rattle.fit.specs.declared.Misfit.{Misfit}
use Rattle.fit.specs.declared.Misfit.TheVariants.{Classification, Column, Cell}

-- ---- cells

-- whether a cell is of a column's type t, by its value byte: 5 is of type 5, at most 8,000 bytes of text; 7 of the three
-- Max types; 8 of type 7 and 9 of type 8; 10 of the integer types; 1 to 4 and 6 of the type of their number
unfoldable pub cell_fits : ℕ → List ℕ → Bool
cell_fits t p =
    let v = le_at 1 p in
    cond (eqb v 5) (eqb t 5 && leb (length (drop 1 p)) 8000)
    (cond (eqb v 7) (leb 6 t && leb t 8)
    (cond (eqb v 8) (eqb t 7)
    (cond (eqb v 9) (eqb t 8)
    (cond (eqb v 10) (leb 1 t && leb t 4) (eqb t v)))))

-- the misfits among cells, from column c on: those not of their column's type, and the smaller count where counts differ
unfoldable pub wrong_cells : ℕ → List ℕ → List (List ℕ) → List ℕ
wrong_cells c [] [] = []
wrong_cells c [] (p ∷ ps) = c ∷ []
wrong_cells c (t ∷ ts) [] = c ∷ []
wrong_cells c (t ∷ ts) (p ∷ ps) = cond (cell_fits t p) (wrong_cells (suc c) ts ps) (c ∷ wrong_cells (suc c) ts ps)

-- the misfits of a row: cell 0 where there are no columns
unfoldable pub wrong_in_row : List ℕ → List (List ℕ) → List ℕ
wrong_in_row [] ps = 0 ∷ []
wrong_in_row (t ∷ ts) ps = wrong_cells 0 (t ∷ ts) ps

-- ---- columns

-- the misfits among columns: none where there are at most 128, and of too many column 128, and no other (document 02, 2026-06)
unfoldable pub wrong_columns : List (List ℕ) → List ℕ
wrong_columns ps = cond (leb (length ps) 128) [] (128 ∷ [])

-- the types of columns: their type bytes
unfoldable pub types_in : List (List ℕ) → List ℕ
types_in ps = map (le_at 1) ps

-- ---- rows, sets and the script

-- a set's classification is empty
abbrev pub classification_misfits : ℕ → List ℕ → List Misfit
classification_misfits set [] = []
classification_misfits set (b ∷ p) = Classification set ∷ []

-- the misfits of a row: those of its cells
abbrev pub row_misfits : ℕ → ℕ → List ℕ → ScriptRow → List Misfit
row_misfits set row types r = map (Cell set row) (wrong_in_row types (map (λ (c : ScriptCell). c.value) r.cells))

-- of the rows from one on, whose number is row
unfoldable pub rows_misfits : ℕ → ℕ → List ℕ → List ScriptRow → List Misfit
rows_misfits set row types [] = []
rows_misfits set row types (r ∷ rs) = row_misfits set row types r ++ rows_misfits set (suc row) types rs

-- of a set: its classification, its columns, its cells by row and column
unfoldable pub set_misfits : ℕ → ScriptSet → List Misfit
set_misfits set s =
    classification_misfits set s.classification
    ++ map (Column set) (wrong_columns s.columns)
    ++ rows_misfits set 0 (types_in s.columns) s.rows

-- of the sets from one on, whose number is set
unfoldable pub sets_misfits : ℕ → List ScriptSet → List Misfit
sets_misfits set [] = []
sets_misfits set (s ∷ ss) = set_misfits set s ++ sets_misfits (suc set) ss

-- nothing where there is an error
abbrev pub unless : List (List ℕ) → List Misfit → List Misfit
unless [] ms = ms
unless (p ∷ ps) ms = []

-- all misfits of a script's sets, by set; none in a terminal script, which has kind 8 in its first set
unfoldable pub misfits : List ScriptSet → List Misfit
misfits [] = []
misfits (s ∷ ss) = unless s.terminal (sets_misfits 0 (s ∷ ss))

-- the first of the list, which is the first in document 02's order (First); none where there is none
abbrev pub first_of : List Misfit → Option Misfit
first_of [] = None
first_of (m ∷ ms) = Some m

-- what the fit check answers: the script's own refusal, 11 to 17; else its first misfit, none where it fits
unfoldable pub fit_of : List ℕ → Result (Option Misfit) ℕ
fit_of s = cond (eqb (refusal_of s) 0) (Ok (first_of (misfits (sets_in (records s))))) (Err (refusal_of s))
