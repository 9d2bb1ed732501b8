-- The values of a cell by their bytes in a script (document 01, 'The script'). Rests on nothing.
use Rattle.std.specs.Prelude.{ℕ, cond, List, [], ◌∷◌, eqb, Option, Some, None}
use Rattle.token.specs.declared.ColumnValue.{ColumnValue}
use Rattle.token.specs.declared.ColumnValue.TheVariants.{TinyInt, SmallInt, Int, BigInt, NVarChar, NVarCharMax, NVarCharMaxNull, VarCharMax, VarBinaryMax, Null}

-- the value byte that stands for a value (1 to 10 in the order of `ColumnValue`)
abbrev pub value_byte : ColumnValue → ℕ
value_byte TinyInt = 1
value_byte SmallInt = 2
value_byte Int = 3
value_byte BigInt = 4
value_byte NVarChar = 5
value_byte NVarCharMax = 6
value_byte NVarCharMaxNull = 7
value_byte VarCharMax = 8
value_byte VarBinaryMax = 9
value_byte Null = 10

-- all values
unfoldable pub column_values : List ColumnValue
column_values = TinyInt ∷ SmallInt ∷ Int ∷ BigInt ∷ NVarChar ∷ NVarCharMax ∷ NVarCharMaxNull ∷ VarCharMax ∷ VarBinaryMax ∷ Null ∷ []

-- of some values the one that a byte stands for
unfoldable pub column_value_in : List ColumnValue → ℕ → Option ColumnValue
column_value_in [] b = None
column_value_in (v ∷ vs) b = cond (eqb b (value_byte v)) (Some v) (column_value_in vs b)

-- the value that a value byte stands for
unfoldable pub column_value_of : ℕ → Option ColumnValue
column_value_of b = column_value_in column_values b
