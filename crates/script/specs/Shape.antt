-- The shapes of payloads (document 01, 'The script'): what a record of each kind holds, and where. Rests on wire.
-- docs/FORMATS.md, 'The nine kinds', has it in words.
use Rattle.std.specs.Prelude.{ℕ, ◌+◌, ◌*◌, List, [], ◌∷◌, Bool, true, cond, not, ◌&&◌, ◌||◌, length, take, drop, eqb, leb}
use Rattle.wire.specs.Le.{le_at}
use Rattle.wire.specs.Even.{even}
use Rattle.script.specs.declared.Stage.{Stage}
use Rattle.script.specs.declared.Stage.TheVariants.{Start, Columns, Leading, Infos, Rows, TextChunks, ByteChunks, Trailing}

-- an info's unit counts of message, server and procedure
abbrev pub message_units : List ℕ → ℕ
message_units p = le_at 2 (drop 10 p)

abbrev pub server_units : List ℕ → ℕ
server_units p = le_at 2 (drop 12 p)

abbrev pub procedure_units : List ℕ → ℕ
procedure_units p = le_at 2 (drop 14 p)

-- a column: type byte 1 to 8, 5 collation bytes, name
unfoldable pub column_shaped : List ℕ → Bool
column_shaped p = leb 6 (length p) && even (length p) && leb 1 (le_at 1 p) && leb (le_at 1 p) 8

-- an info: number (4), state (1), severity (1), line (4), three unit counts (2 each), the three texts
unfoldable pub info_shaped : List ℕ → Bool
info_shaped p = leb 16 (length p) && eqb (length p) (16 + 2 * (message_units p + server_units p + procedure_units p))

-- how many bytes the number of a cell of value 1 to 4 has
unfoldable pub number_width : ℕ → ℕ
number_width v = cond (eqb v 1) 1 (cond (eqb v 2) 2 (cond (eqb v 3) 4 8))

-- a cell: value byte 1 to 10, then 1, 2, 4 or 8 bytes for values 1 to 4, text for 5, nothing for 6 to 10
unfoldable pub cell_shaped : List ℕ → Bool
unfolding number_width
cell_shaped p =
    let v = le_at 1 p in
    cond (leb 1 v && leb v 4) (eqb (length p) (1 + number_width v))
    (cond (eqb v 5) (not (even (length p)))
    (leb 6 v && leb v 10 && eqb (length p) 1))

-- a chunk: even length under value 6
unfoldable pub chunk_shaped : Stage → List ℕ → Bool
chunk_shaped Start p = true
chunk_shaped Columns p = true
chunk_shaped Leading p = true
chunk_shaped Infos p = true
chunk_shaped Rows p = true
chunk_shaped TextChunks p = even (length p)
chunk_shaped ByteChunks p = true
chunk_shaped Trailing p = true

-- an error: number (4), severity (1), text
unfoldable pub error_shaped : List ℕ → Bool
error_shaped p = leb 5 (length p) && not (even (length p))

-- whether a payload has the shape of its kind; kind 1 holds any bytes, kind 4 none
unfoldable pub shaped : Stage → ℕ → List ℕ → Bool
shaped st k p =
    cond (eqb k 1) true
    (cond (eqb k 2) (column_shaped p)
    (cond (eqb k 3 || eqb k 9) (info_shaped p)
    (cond (eqb k 4) (eqb (length p) 0)
    (cond (eqb k 5) (cell_shaped p)
    (cond (eqb k 6) (chunk_shaped st p) (error_shaped p))))))

-- the texts of a payload: a column's name; an info's message, server and procedure; the text of a cell of value 5; an error's text
abbrev pub message_text : List ℕ → List ℕ
message_text p = take (2 * message_units p) (drop 16 p)

abbrev pub server_name : List ℕ → List ℕ
server_name p = take (2 * server_units p) (drop (16 + 2 * message_units p) p)

abbrev pub procedure_name : List ℕ → List ℕ
procedure_name p = take (2 * procedure_units p) (drop (16 + 2 * message_units p + 2 * server_units p) p)

unfoldable pub texts_of : ℕ → List ℕ → List (List ℕ)
texts_of k p =
    cond (eqb k 2) (drop 6 p ∷ [])
    (cond (eqb k 3 || eqb k 9) (message_text p ∷ server_name p ∷ procedure_name p ∷ [])
    (cond (eqb k 5) (cond (eqb (le_at 1 p) 5) (drop 1 p ∷ []) [])
    (cond (eqb k 7 || eqb k 8) (drop 5 p ∷ []) [])))
