-- What a script emits (document 01, 'What a script emits', 'The reply packet'): the token list, set by set and row by row, and
-- the reply's bytes. Rests on the shapes of script, the script's sets, the tokens of token and the packet of packet.
-- docs/FORMATS.md, 'What is sent', has it in words.
use Rattle.std.specs.Prelude.{ℕ, length, take, drop, Option, Some, None}
use mathlib.Core.List.{List, [], ◌∷◌, ◌++◌, map, flat_map}
use Rattle.wire.specs.Le.{le_at}
use Rattle.wire.specs.Fields.{Field, raw, flat}
use Rattle.packet.specs.Reply.{packet_of}
use Rattle.script.specs.Records.{records}
use Rattle.script.specs.Shape.{message_text, server_name, procedure_name}
use Rattle.token.specs.Types.{data_type_of, type_code, type_length, collation_size}
use Rattle.token.specs.Values.{column_value_of}
use Rattle.token.specs.declared.SqlDataType.{SqlDataType}
use Rattle.token.specs.declared.ColumnValue.{ColumnValue}
use Rattle.token.specs.declared.ColumnValue.TheVariants.{TinyInt, SmallInt, Int, BigInt, NVarChar, NVarCharMax, NVarCharMaxNull, VarCharMax, VarBinaryMax, Null}
use Rattle.token.specs.Tokens.{Token, metadata, column, row, cell, done, EncodedCell, integer, no_integer, bounded, long, no_long, put}
use Rattle.token.specs.Tokens.{message}
use Rattle.script.specs.Sets.{ScriptCell, ScriptRow, ScriptSet, sets_in}

-- ---- the token of a record

-- a column of a type, as the code and length that the Rust writes for it; user type 0, flags 0
abbrev pub column_token : SqlDataType → List ℕ → Token EncodedCell
column_token t p = column 0 0 (type_code t) (type_length t) (take (collation_size (type_code t)) (drop 1 p)) (drop 6 p)

-- the column of a record by its type byte; a byte that stands for no type, which no accepted script has, states none
abbrev pub column_by : Option SqlDataType → List ℕ → List (Token EncodedCell)
column_by (Some t) p = column_token t p ∷ []
column_by None p = []

unfoldable pub column_of : List ℕ → List (Token EncodedCell)
column_of p = column_by (data_type_of (le_at 1 p)) p

-- INFO: number, state, severity, texts, line
abbrev pub info_token : List ℕ → Token EncodedCell
info_token p = message 0xAB (le_at 4 p) (le_at 1 (drop 4 p)) (le_at 1 (drop 5 p)) (message_text p) (server_name p) (procedure_name p) (le_at 4 (drop 6 p))

-- ERROR: number, severity, text; state 1, empty names, line 1
abbrev pub error_token : List ℕ → Token EncodedCell
error_token p = message 0xAA (le_at 4 p) 1 (le_at 1 (drop 4 p)) (drop 5 p) [] [] 1

-- DONE, whose command is SELECT; the status of each kind of DONE is named here alone. Its bits (MS-TDS 2.2.7.6): 0001 MORE, 0002 an
-- error, 0010 COUNT, with which the row count is valid
abbrev pub done_token : ℕ → ℕ → Token EncodedCell
done_token status rows = done status 0xC1 rows

-- of the DONE that ends a set, where a set follows and where none does (document 02, 2026-03); the Rust writes both without COUNT
abbrev pub more_status : ℕ
more_status = 0x0011

abbrev pub last_status : ℕ
last_status = 0x0010

-- of the DONE after an error, which ends no set
abbrev pub leading_status : ℕ
leading_status = 0x0003

abbrev pub terminal_status : ℕ
terminal_status = 0x0002

-- a cell by its value: a number, the text, its chunks, or null; x stands after the value byte
abbrev pub value_cell : ColumnValue → List ℕ → List (List ℕ) → EncodedCell
value_cell TinyInt x chunks = integer 1 (le_at 1 x)
value_cell SmallInt x chunks = integer 2 (le_at 2 x)
value_cell Int x chunks = integer 4 (le_at 4 x)
value_cell BigInt x chunks = integer 8 (le_at 8 x)
value_cell NVarChar x chunks = bounded x
value_cell NVarCharMax x chunks = long chunks
value_cell NVarCharMaxNull x chunks = no_long
value_cell VarCharMax x chunks = long chunks
value_cell VarBinaryMax x chunks = long chunks
value_cell Null x chunks = no_integer

-- the cell of a record by its value byte; a byte that stands for no value, which no accepted script has, states none
abbrev pub cell_by : Option ColumnValue → List ℕ → List (List ℕ) → List EncodedCell
cell_by (Some v) x chunks = value_cell v x chunks ∷ []
cell_by None x chunks = []

unfoldable pub cell_of : List ℕ → List (List ℕ) → List EncodedCell
cell_of p chunks = cell_by (column_value_of (le_at 1 p)) (drop 1 p) chunks

-- ---- what the sets emit

-- a token, or a set's classification bytes, which are no token
pub data Piece : Type 0 where
  token_piece : Token EncodedCell → Piece
  classification_piece : List ℕ → Piece

abbrev pub column_piece : List ℕ → List Piece
column_piece p = map token_piece (column_of p)

abbrev pub column_pieces : List (List ℕ) → List Piece
column_pieces ps = flat_map column_piece ps

abbrev pub info_pieces : List (List ℕ) → List Piece
info_pieces ps = map (λ (p : List ℕ). token_piece (info_token p)) ps

-- an error with its DONE
abbrev pub error_pieces : ℕ → List (List ℕ) → List Piece
error_pieces status [] = []
error_pieces status (p ∷ ps) = token_piece (error_token p) ∷ token_piece (done_token status 0) ∷ error_pieces status ps

abbrev pub cell_pieces : List ℕ → List (List ℕ) → List Piece
cell_pieces p chunks = map (λ (c : EncodedCell). token_piece (cell c)) (cell_of p chunks)

-- a row, and its cells
abbrev pub row_pieces : ScriptRow → List Piece
row_pieces r = token_piece row ∷ flat_map (λ (c : ScriptCell). cell_pieces c.value c.chunks) r.cells

-- a set: 81 with the number of its columns, the columns, its classification bytes, its infos and its rows, an INFO for each kind 9,
-- and a DONE that counts the rows
unfoldable pub set_pieces : ℕ → ScriptSet → List Piece
set_pieces status s =
    token_piece (metadata (length s.columns))
    ∷ column_pieces s.columns
    ++ classification_piece s.classification
    ∷ info_pieces s.infos
    ++ flat_map row_pieces s.rows
    ++ info_pieces s.trailing
    ++ token_piece (done_token status (length s.rows)) ∷ []

-- the status of a set's DONE, by the sets after it
abbrev pub status_before : List ScriptSet → ℕ
status_before [] = last_status
status_before (s ∷ ss) = more_status

unfoldable pub sets_pieces : List ScriptSet → List Piece
sets_pieces [] = []
sets_pieces (s ∷ ss) = set_pieces (status_before ss) s ++ sets_pieces ss

-- what stands alone, where there is any, in the place of the rest
abbrev pub or_else : List Piece → List Piece → List Piece
or_else [] ps = ps
or_else (x ∷ xs) ps = x ∷ xs

-- kind 8 in the first set: its ERROR and DONE, nothing more; else what the sets emit, after the ERROR and DONE of a kind 7. The
-- errors of later sets are ignored
unfoldable pub emitted_by : List ScriptSet → List Piece
emitted_by [] = []
emitted_by (s ∷ ss) = or_else (error_pieces terminal_status s.terminal) (error_pieces leading_status s.leading ++ sets_pieces (s ∷ ss))

-- the pieces of a script
unfoldable pub pieces : List ℕ → List Piece
pieces s = emitted_by (sets_in (records s))

-- ---- tokens and bytes

abbrev pub tokens_in : List Piece → List (Token EncodedCell)
tokens_in [] = []
tokens_in (token_piece t ∷ ps) = t ∷ tokens_in ps
tokens_in (classification_piece x ∷ ps) = tokens_in ps

-- the token list that a script emits
unfoldable pub emitted : List ℕ → List (Token EncodedCell)
emitted s = tokens_in (pieces s)

abbrev pub put_pieces : List Piece → List Field
put_pieces [] = []
put_pieces (token_piece t ∷ ps) = put t (put_pieces ps)
put_pieces (classification_piece x ∷ ps) = raw x ∷ put_pieces ps

-- the bytes of pieces
unfoldable pub bytes_in : List Piece → List ℕ
bytes_in ps = flat (put_pieces ps)

-- the reply of a script: the packet of what it emits
unfoldable pub reply_of : List ℕ → List ℕ
reply_of s = packet_of (bytes_in (pieces s))
