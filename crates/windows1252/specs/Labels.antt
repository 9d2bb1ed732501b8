-- Event labels (document 02, 2026-07): a VARCHAR(MAX) value in Windows-1252, its total and chunks, as text of UTF-16LE, and such text as
-- a value. Rests on Table, on cells' reading and on token's cells. docs/FORMATS.md, 'Event labels', has it in words.
use Rattle.std.specs.Prelude.{ℕ, Option, Some, None, Result, Ok, Err, cond, List, [], ◌∷◌, eqb, leb, length}
use Rattle.refusals.specs.Numbers.{inner_wrong, odd_text, unit_without_byte, result_too_long}
use Rattle.wire.specs.Even.{even}
use Rattle.wire.specs.Fields.{flat}
use Rattle.text.specs.Units.{units_of}
use Rattle.token.specs.Tokens.{long, put_cell}
use Rattle.payload.specs.Places.{Read, whole, refused, body_source}
use Rattle.cells.specs.declared.Value.{Value}
use Rattle.cells.specs.declared.Value.TheVariants as cell
use Rattle.cells.specs.Cells.{cell_at}
use Rattle.cells.specs.Values.{joined_from}
use Rattle.windows1252.specs.Table.{have_bytes, bytes_of, text_of}

-- the most characters of a label, read or written
abbrev pub most_characters : ℕ
most_characters = 65535

-- ---- reading

-- what a value reads as: a text, none where it is null, or a refusal
abbrev pub Reading : Type 0
Reading = Result (Option (List ℕ)) ℕ

-- the bytes of a value's chunks, joined; they stand after the total
unfoldable pub chunks_joined : List ℕ → List ℕ
chunks_joined v = joined_from v 8

-- the text of some bytes: 17 where they are too many
unfoldable pub shown : List ℕ → Reading
shown bs = cond (leb (length bs) most_characters) (Ok (Some (text_of bs))) (Err result_too_long)

-- a cell of VARCHAR(MAX) is null or in chunks; it has no other value
abbrev pub label_of : List ℕ → Value → Reading
label_of v cell.Null = Ok None
label_of v (cell.Max part) = shown (chunks_joined v)
label_of v (cell.Part part) = Err inner_wrong
label_of v (cell.Number n) = Err inner_wrong

-- what was read is all of the value: 26 where bytes follow it
abbrev pub wholly : List ℕ → Read Value → Reading
wholly v (whole x at) = cond (eqb at (length v)) (label_of v x) (Err inner_wrong)
wholly v (refused r) = Err r

-- a value is read as a cell of type A7 (BIGVARCHAR) of length FFFF
unfoldable pub read_of : List ℕ → Reading
read_of v = wholly v (cell_at 0xA7 0xFFFF (body_source v) 0)

-- ---- writing

-- what a text is written as: the bytes of a value, or a refusal
abbrev pub Writing : Type 0
Writing = Result (List ℕ) ℕ

-- bytes as one chunk; none where there are no bytes
abbrev pub one_chunk : List ℕ → List (List ℕ)
one_chunk [] = []
one_chunk (b ∷ bs) = (b ∷ bs) ∷ []

-- a value of known total and one chunk
unfoldable pub value_bytes : List ℕ → List ℕ
value_bytes bs = flat (put_cell (long (one_chunk bs)) [])

-- units as a value: 36 where a unit has no byte, then 17 where they are too many
unfoldable pub encoded : List ℕ → Writing
encoded us = cond (have_bytes us) (cond (leb (length us) most_characters) (Ok (value_bytes (bytes_of us))) (Err result_too_long)) (Err unit_without_byte)

-- a text: 21 where it has an odd number of bytes
unfoldable pub written_of : List ℕ → Writing
written_of t = cond (even (length t)) (encoded (units_of t)) (Err odd_text)
