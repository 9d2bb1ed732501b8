-- The tokens of a reply as they are read, field by field (MS-TDS 2.2.7.4 COLMETADATA, 2.2.7.6 DONE, 2.2.7.10 ERROR, 2.2.7.13
-- INFO, 2.2.7.20 ROW; document 01, 'The reply reader'). Rests on payload's places and the types of cells.
-- docs/FORMATS.md, 'Tokens and types that are read', has it in words.
use Rattle.std.specs.Prelude.{ℕ, ◌-◌, ◌*◌, cond, ◌&&◌, ◌||◌, eqb, leb, ltb}
use Rattle.refusals.specs.Numbers.{inner_wrong, row_without_columns, too_many_columns, unknown_token}
use Rattle.wire.specs.declared.Part.{Part}
use Rattle.reader.specs.declared.Token.{Token}
use Rattle.reader.specs.declared.Token.TheVariants.{ColMetadata, Column, Row, Done, Message}
use Rattle.reader.specs.declared.token_reader.Texts.{Texts}
use Rattle.wire.specs.Even.{even}
use Rattle.payload.specs.Places.{Source, Place, Read, whole, refused, number_at, part_at, must, then}
use Rattle.cells.specs.Cells.{type_at}

-- a column: user type, flags, type, and the name after its count of units
unfoldable pub column_at : Source → Place → Read Token
column_at src at =
    number_at 4 src at λ user_type a1.
    number_at 2 src a1 λ flags a2.
    then (type_at src a2) λ type a3.
    number_at 1 src a3 λ units a4.
    part_at (2 * units) src a4 λ name a5.
    whole (Column user_type flags type.code type.limit type.collation name) a5

-- COLMETADATA after its first byte: the count of columns
unfoldable pub metadata_at : Source → Place → Read Token
metadata_at src at =
    number_at 2 src at λ count a1.
    must (leb count 128) too_many_columns
    (whole (ColMetadata count) a1)

-- ROW after its first byte, in a set of some number of columns
unfoldable pub row_at : ℕ → Place → Read Token
row_at columns at = must (ltb 0 columns) row_without_columns (whole Row at)

-- DONE after its first byte: status, command, row count
unfoldable pub done_at : Source → Place → Read Token
done_at src at =
    number_at 2 src at λ status a1.
    number_at 2 src a1 λ command a2.
    number_at 8 src a2 λ count a3.
    whole (Done status command count) a3

-- a text after its count of units in k bytes, where room bytes are left for it and for texts that have at most most bytes
unfoldable pub text_at : ℕ → ℕ → ℕ → Source → Place → Read Part
text_at k room most src at =
    number_at k src at λ units a1.
    must (leb (2 * units) room && leb (room - 2 * units) most) inner_wrong
    (part_at (2 * units) src a1 λ text a2.
    whole text a2)

-- the texts of ERROR and INFO, which have room bytes together, and the line. A name has at most 255 units, which are 510 bytes: so
-- the message text leaves at most 1020 bytes for the two names, the server's name at most 510 for the procedure's, and that none
unfoldable pub texts_at : ℕ → Source → Place → Read Texts
texts_at room src at =
    then (text_at 2 room 1020 src at) λ text a1.
    then (text_at 1 (room - text.len) 510 src a1) λ server a2.
    then (text_at 1 (room - text.len - server.len) 0 src a2) λ procedure a3.
    number_at 4 src a3 λ line a4.
    whole (record { text = text; server = server; procedure = procedure; line = line }) a4

-- ERROR and INFO after their first byte: length, number, state, class, the texts, line. 14 bytes of the length are not of the texts
unfoldable pub message_at : ℕ → Source → Place → Read Token
message_at kind src at =
    number_at 2 src at λ size a1.
    must (leb 14 size && even size) inner_wrong
    (number_at 4 src a1 λ number a2.
    number_at 1 src a2 λ state a3.
    number_at 1 src a3 λ class a4.
    then (texts_at (size - 14) src a4) λ t a5.
    whole (Message kind number state class t.text t.server t.procedure t.line) a5)

-- a token by its first byte, in a set of some number of columns
unfoldable pub token_at : ℕ → Source → Place → Read Token
token_at columns src at =
    number_at 1 src at λ code a1.
    cond (eqb code 0x81) (metadata_at src a1)
    (cond (eqb code 0xD1) (row_at columns a1)
    (cond (eqb code 0xFD) (done_at src a1)
    (cond (eqb code 0xAA || eqb code 0xAB) (message_at code src a1)
    (refused unknown_token))))
