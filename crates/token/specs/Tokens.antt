-- The tokens of a reply (MS-TDS 2.2.7) and their bytes, as a builder sends them and as a reader understands them.
-- Rests on wire's fields and text's counts.
use Rattle.std.specs.Prelude.{ℕ, ◌+◌, ◌-◌, ◌/◌, ◌^◌, List, [], ◌∷◌, ◌++◌, cond, ◌||◌, ℤ, pos, negsuc, length, eqb, ltb}
use Rattle.wire.specs.Fields.{Field, word, raw, flat}
use Rattle.text.specs.Units.{units}
use Rattle.token.specs.Types.{length_width}

-- a token whose cells are of the type C: COLMETADATA and each of its columns, ROW and each of its cells, DONE, and
-- ERROR or INFO by its first byte; texts are bytes
pub data Token (C : Type 0) : Type 0 where
  metadata : (count : ℕ) → Token C
  column : (user_type flags code limit : ℕ) (collation name : List ℕ) → Token C
  row : Token C
  cell : C → Token C
  done : (status command count : ℕ) → Token C
  message : (kind number state class : ℕ) (text server procedure : List ℕ) (line : ℕ) → Token C

-- a cell as it is sent: an integer of w bytes, a bounded text, a Max value in chunks, and the nulls of integers and of Max values
pub data EncodedCell : Type 0 where
  integer : (w n : ℕ) → EncodedCell
  no_integer : EncodedCell
  bounded : List ℕ → EncodedCell
  long : List (List ℕ) → EncodedCell
  no_long : EncodedCell

-- a cell's value: number, part, null (document 01)
pub data Value : Type 0 where
  number : ℤ → Value
  part : List ℕ → Value
  null : Value

-- the number that w bytes stand for: one byte without a sign, more with it
unfoldable pub signed : ℕ → ℕ → ℤ
signed w n = cond (eqb w 1 || ltb n (256 ^ w / 2)) (pos n) (negsuc (256 ^ w - 1 - n))

-- chunks' bytes joined
abbrev pub joined : List (List ℕ) → List ℕ
joined [] = []
joined (c ∷ cs) = c ++ joined cs

-- what a cell that is sent states
abbrev pub value_of : EncodedCell → Value
value_of (integer w n) = number (signed w n)
value_of no_integer = null
value_of (bounded x) = part x
value_of (long cs) = part (joined cs)
value_of no_long = null

-- what a token that is sent states
abbrev pub states : Token EncodedCell → Token Value
states (metadata n) = metadata n
states (column u f c l o n) = column u f c l o n
states row = row
states (cell v) = cell (value_of v)
states (done s c n) = done s c n
states (message k n s c t v p l) = message k n s c t v p l

-- ---- bytes, as fields before those that follow

-- the chunks of a Max value, each with its length, and the zero length that ends them
abbrev pub put_chunks : List (List ℕ) → List Field → List Field
put_chunks [] fs = word 4 0 ∷ fs
put_chunks (c ∷ cs) fs = word 4 (length c) ∷ raw c ∷ put_chunks cs fs

abbrev pub put_cell : EncodedCell → List Field → List Field
put_cell (integer w n) fs = word 1 w ∷ word w n ∷ fs
put_cell no_integer fs = word 1 0 ∷ fs
put_cell (bounded x) fs = word 2 (length x) ∷ raw x ∷ fs
put_cell (long cs) fs = word 8 (length (joined cs)) ∷ put_chunks cs fs
put_cell no_long fs = word 8 0xFFFFFFFFFFFFFFFF ∷ fs

-- the length of a message: what follows the length itself
unfoldable pub message_length : List ℕ → List ℕ → List ℕ → ℕ
message_length text server procedure = 14 + length text + length server + length procedure

-- US_VARCHAR and B_VARCHAR of MS-TDS: a text after its count of units, in two bytes and in one
abbrev pub us_varchar : List ℕ → List Field → List Field
us_varchar t fs = word 2 (units t) ∷ raw t ∷ fs

abbrev pub b_varchar : List ℕ → List Field → List Field
b_varchar t fs = word 1 (units t) ∷ raw t ∷ fs

-- a message up to its texts
abbrev pub message_head : ℕ → ℕ → ℕ → ℕ → ℕ → List Field → List Field
message_head kind size n state class fs = word 1 kind ∷ word 2 size ∷ word 4 n ∷ word 1 state ∷ word 1 class ∷ fs

-- TYPE_INFO after user type 0 and flags 0, as far as every type has it: the code and the length
abbrev pub type_fields : ℕ → ℕ → ℕ → ℕ → List Field → List Field
type_fields u f code limit fs = word 4 u ∷ word 2 f ∷ word 1 code ∷ word (length_width code) limit ∷ fs

abbrev pub put : Token EncodedCell → List Field → List Field
put (metadata n) fs = word 1 0x81 ∷ word 2 n ∷ fs
put (column u f c l o n) fs = type_fields u f c l (raw o ∷ b_varchar n fs)
put row fs = word 1 0xD1 ∷ fs
put (cell v) fs = put_cell v fs
put (done s c n) fs = word 1 0xFD ∷ word 2 s ∷ word 2 c ∷ word 8 n ∷ fs
put (message k n s c t v p l) fs =
    message_head k (message_length t v p) n s c (us_varchar t (b_varchar v (b_varchar p (word 4 l ∷ fs))))

-- the bytes of a token
unfoldable pub token_bytes : Token EncodedCell → List ℕ
token_bytes t = flat (put t [])
