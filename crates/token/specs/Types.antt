-- The column types (MS-TDS 2.2.5.4, 2.2.5.5): the code and the length that the Rust writes for each. Rests on nothing.
use Rattle.std.specs.Prelude.{ℕ, cond, ◌||◌, List, [], ◌∷◌, eqb, Option, Some, None}
use Rattle.token.specs.declared.SqlDataType.{SqlDataType}
use Rattle.token.specs.declared.SqlDataType.TheVariants.{TinyInt, SmallInt, Int, BigInt, NVarChar, NVarCharMax, VarCharMax, VarBinaryMax}

-- the type byte that stands for a data type in a script (document 01, 'The script': 1 to 8 in the order of `SqlDataType`)
abbrev pub type_byte : SqlDataType → ℕ
type_byte TinyInt = 1
type_byte SmallInt = 2
type_byte Int = 3
type_byte BigInt = 4
type_byte NVarChar = 5
type_byte NVarCharMax = 6
type_byte VarCharMax = 7
type_byte VarBinaryMax = 8

-- all data types
unfoldable pub data_types : List SqlDataType
data_types = TinyInt ∷ SmallInt ∷ Int ∷ BigInt ∷ NVarChar ∷ NVarCharMax ∷ VarCharMax ∷ VarBinaryMax ∷ []

-- of some data types the one that a byte stands for
unfoldable pub data_type_in : List SqlDataType → ℕ → Option SqlDataType
data_type_in [] b = None
data_type_in (t ∷ ts) b = cond (eqb b (type_byte t)) (Some t) (data_type_in ts b)

-- the data type that a type byte stands for
unfoldable pub data_type_of : ℕ → Option SqlDataType
data_type_of b = data_type_in data_types b

-- INTNTYPE 26, NVARCHARTYPE E7, BIGVARCHARTYPE A7, BIGVARBINARYTYPE A5
abbrev pub type_code : SqlDataType → ℕ
type_code TinyInt = 0x26
type_code SmallInt = 0x26
type_code Int = 0x26
type_code BigInt = 0x26
type_code NVarChar = 0xE7
type_code NVarCharMax = 0xE7
type_code VarCharMax = 0xA7
type_code VarBinaryMax = 0xA5

-- the length of a type: an integer's bytes, a bounded text's most bytes, FFFF for Max
abbrev pub type_length : SqlDataType → ℕ
type_length TinyInt = 1
type_length SmallInt = 2
type_length Int = 4
type_length BigInt = 8
type_length NVarChar = 8000
type_length NVarCharMax = 0xFFFF
type_length VarCharMax = 0xFFFF
type_length VarBinaryMax = 0xFFFF

-- in how many bytes a type's length stands, and how many bytes of collation follow it
unfoldable pub length_width : ℕ → ℕ
length_width code = cond (eqb code 0x26) 1 2

unfoldable pub collation_size : ℕ → ℕ
collation_size code = cond (eqb code 0xE7 || eqb code 0xA7) 5 0
