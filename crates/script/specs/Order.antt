-- The order of a script's records (document 01, 'The script': one or more sets, each 1, columns, at most one 7, at most
-- one 8, infos, rows with cells with chunks; then kind 9 records). Rests on wire.
-- docs/FORMATS.md, 'The order of records', has it in words.
use Rattle.std.specs.Prelude.{ℕ, List, [], ◌∷◌, Bool, false, cond, ◌||◌, eqb}
use Rattle.wire.specs.Le.{le_at}
use Rattle.script.specs.declared.Stage.{Stage}
use Rattle.script.specs.declared.Stage.TheVariants.{Start, Columns, Leading, Infos, Rows, TextChunks, ByteChunks, Trailing}

-- the kinds that may follow, by what stands before: nothing; a set or a column; a leading error; a terminal error or an
-- info; a row or a cell without chunks; a cell of chunks or a chunk, of units or of bytes; a trailing info
abbrev pub may_follow : Stage → List ℕ
may_follow Start = 1 ∷ []
may_follow Columns = 2 ∷ 7 ∷ 8 ∷ 3 ∷ 4 ∷ 1 ∷ 9 ∷ []
may_follow Leading = 8 ∷ 3 ∷ 4 ∷ 1 ∷ 9 ∷ []
may_follow Infos = 3 ∷ 4 ∷ 1 ∷ 9 ∷ []
may_follow Rows = 5 ∷ 4 ∷ 1 ∷ 9 ∷ []
may_follow TextChunks = 6 ∷ 5 ∷ 4 ∷ 1 ∷ 9 ∷ []
may_follow ByteChunks = 6 ∷ 5 ∷ 4 ∷ 1 ∷ 9 ∷ []
may_follow Trailing = 9 ∷ []

-- whether a kind is one of some kinds
abbrev pub is_one_of : ℕ → List ℕ → Bool
is_one_of k [] = false
is_one_of k (j ∷ js) = eqb k j || is_one_of k js

-- whether a record of kind k may stand next
abbrev pub allowed : Stage → ℕ → Bool
allowed st k = is_one_of k (may_follow st)

-- the stage after a cell: values 6, 8 and 9 have chunks, those of value 6 of whole units
unfoldable pub cell_stage : ℕ → Stage
cell_stage v = cond (eqb v 6) TextChunks (cond (eqb v 8 || eqb v 9) ByteChunks Rows)

-- the stage after a record of kind k; a chunk changes nothing
unfoldable pub stage_after : Stage → ℕ → List ℕ → Stage
stage_after st k p =
    cond (eqb k 1 || eqb k 2) Columns
    (cond (eqb k 3 || eqb k 8) Infos
    (cond (eqb k 4) Rows
    (cond (eqb k 5) (cell_stage (le_at 1 p))
    (cond (eqb k 6) st
    (cond (eqb k 7) Leading Trailing)))))
