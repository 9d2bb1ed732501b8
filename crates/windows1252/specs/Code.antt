-- What private functions promise. Rests on Labels.
use Rattle.std.specs.Prelude.{ℕ, Option, Some, None, Result, Ok, Err, ◌+◌, ◌*◌, Bool, cond, ◌&&◌, ◌||◌, List, [], ◌∷◌, eqb, leb, ltb, length}
use Rattle.refusals.specs.Numbers.{inner_wrong, result_too_long}
use Rattle.wire.specs.Fields.{Field, word, raw}
use Rattle.windows1252.specs.Table.{byte_of, has_byte}
use Rattle.windows1252.specs.Labels.{Writing, most_characters}

-- null and a text of so many characters, read up to a place of a value of so many bytes
abbrev pub null_at : (len next : ℕ) → Result (Option ℕ) ℕ
null_at len next = cond (eqb next len) (Ok None) (Err inner_wrong)

abbrev pub text_at : (len next count : ℕ) → Result (Option ℕ) ℕ
text_at len next count =
    cond (eqb next len) (cond (leb count most_characters) (Ok (Some (2 * count))) (Err result_too_long)) (Err inner_wrong)

-- a text's refusal; 0 none
abbrev pub fault_by : Writing → ℕ
fault_by (Ok v) = 0
fault_by (Err r) = r

-- the bytes of a value of n characters: a total and a zero length, and between them a chunk's length and its bytes
abbrev pub value_size : ℕ → ℕ
value_size n = cond (eqb n 0) 12 (n + 16)

-- a unit that is its own byte
abbrev pub is_itself : ℕ → Bool
is_itself u = ltb u 0x80 || (leb 0xA0 u && leb u 0xFF)

-- the byte that stands for a unit, if one does
unfoldable pub byte_found : ℕ → Option ℕ
byte_found u = cond (has_byte u) (Some (byte_of u)) None

-- the fields of one chunk; none where there are no bytes
abbrev pub chunk_fields : List ℕ → List Field
chunk_fields [] = []
chunk_fields (b ∷ bs) = word 4 (length (b ∷ bs)) ∷ raw (b ∷ bs) ∷ []
