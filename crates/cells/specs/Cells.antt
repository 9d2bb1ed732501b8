-- Column types and cells (MS-TDS 2.2.5.4.2 and 2.2.5.4.3, 2.2.5.6 TYPE_INFO, 2.2.5.2.3 PLP_BODY; document 01, 'The reply reader').
-- They know nothing of headers and positions. Rests on payload's places and on token's types and signs.
-- docs/FORMATS.md, 'Tokens and types that are read', has it in words.
use Rattle.std.specs.Prelude.{ℕ, zero, suc, ◌-◌, Bool, cond, not, ◌&&◌, ◌||◌, eqb, leb, length}
use Rattle.refusals.specs.Numbers.{inner_wrong}
use Rattle.wire.specs.declared.Part.{Part}
use Rattle.token.specs.Types.{length_width, collation_size}
use Rattle.token.specs.Tokens.{signed}
use Rattle.cells.specs.declared.TypeInfo.{TypeInfo}
use Rattle.cells.specs.declared.Value.{Value}
use Rattle.cells.specs.declared.Value.TheVariants as value
use Rattle.wire.specs.Even.{even}
use Rattle.payload.specs.Places.{Source, Place, Read, whole, refused, number_at, part_at, must, then, part_to}

-- ---- column types

-- the codes of column types: INTN, NVARCHAR, BIGVARCHAR, BIGVARBINARY
unfoldable pub is_code : ℕ → Bool
is_code code = eqb code 0x26 || eqb code 0xE7 || eqb code 0xA7 || eqb code 0xA5

-- column types: 26 with length 1, 2, 4, 8; E7 with 1 to 8000 or FFFF; A7 and A5 with FFFF
unfoldable pub is_type : ℕ → ℕ → Bool
is_type code limit =
    (eqb code 0x26 && (eqb limit 1 || eqb limit 2 || eqb limit 4 || eqb limit 8))
    || (eqb code 0xE7 && ((leb 1 limit && leb limit 8000) || eqb limit 0xFFFF))
    || ((eqb code 0xA7 || eqb code 0xA5) && eqb limit 0xFFFF)

-- TYPE_INFO: the code, the length, the collation
unfoldable pub type_at : Source → Place → Read TypeInfo
type_at src at =
    number_at 1 src at λ code a1.
    must (is_code code) inner_wrong
    (number_at (length_width code) src a1 λ limit a2.
    must (is_type code limit) inner_wrong
    (part_at (collation_size code) src a2 λ collation a3.
    whole (record { code = code; limit = limit; collation = collation }) a3))

-- ---- cells

-- a cell of 26: length 0 (null) or the column's
unfoldable pub integer_at : ℕ → Source → Place → Read Value
integer_at limit src at =
    number_at 1 src at λ n a1.
    cond (eqb n 0) (whole value.Null a1)
    (must (eqb n limit) inner_wrong
    (number_at n src a1 λ v a2.
    whole (value.Number (signed n v)) a2))

-- a cell of bounded E7: FFFF is null, else an even length within the limit
unfoldable pub bounded_at : ℕ → Source → Place → Read Value
bounded_at limit src at =
    number_at 2 src at λ n a1.
    cond (eqb n 0xFFFF) (whole value.Null a1)
    (must (even n && leb n limit) inner_wrong
    (part_at n src a1 λ part a2.
    whole (value.Part part) a2))

-- a chunk of n bytes that can stand where left bytes of a known total are to come: an even one in text, and not over what is left
unfoldable pub is_chunk : Bool → Bool → ℕ → ℕ → Bool
is_chunk text known left n = (even n || not text) && (leb n left || not known)

-- a zero length that can stand there: nothing of a known total is to come
unfoldable pub is_last : Bool → ℕ → Bool
is_last known left = eqb left 0 || not known

-- the length of the chunk at a place, which is 0 for the last, with the place after the chunk
unfoldable pub chunk_at : Bool → Bool → Source → ℕ → Place → Read ℕ
chunk_at text known src left at =
    number_at 4 src at λ n a1.
    cond (eqb n 0) (must (is_last known left) inner_wrong (whole 0 a1))
    (must (is_chunk text known left n) inner_wrong
    (part_at n src a1 λ part a2.
    whole n a2))

-- the chunks of a Max value up to a zero length, as the part from start on. A chunk is four bytes or more, so that one
-- turn more than the source has bytes is enough
unfoldable pub chunks_at : ℕ → Bool → Bool → Source → Place → ℕ → Place → Read Part
chunks_at zero text known src start left at = refused src.stop
chunks_at (suc turns) text known src start left at =
    then (chunk_at text known src left at) λ n a1.
    cond (eqb n 0) (whole (part_to start a1) a1) (chunks_at turns text known src start (left - n) a1)

-- a Max cell (PLP_BODY): total of all FF is null, all FF but a lowest byte FE is unknown, else the chunks' sum, which is even in text
unfoldable pub max_at : Bool → Source → Place → Read Value
max_at text src at =
    number_at 8 src at λ total a1.
    cond (eqb total 0xFFFFFFFFFFFFFFFF) (whole value.Null a1)
    (must (even total || not text) inner_wrong
    (then (chunks_at (suc (length src.bytes)) text (not (eqb total 0xFFFFFFFFFFFFFFFE)) src a1 total a1) λ part a2.
    whole (value.Max part) a2))

-- a cell of a column of some code and length: 26 where there is no such type
unfoldable pub cell_at : ℕ → ℕ → Source → Place → Read Value
cell_at code limit src at =
    must (is_type code limit) inner_wrong
    (cond (eqb code 0x26) (integer_at limit src at)
    (cond (eqb limit 0xFFFF) (max_at (eqb code 0xE7) src at) (bounded_at limit src at)))
