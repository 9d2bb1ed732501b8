-- What a cell's value makes of it, and the bytes of values and types. Assumes nothing.
use mathlib.Core.Path.{◌≡◌, refl, sym, ◌∙◌}
use mathlib.Core.Logic.{inl, inr}
use native.Mathlib.Omega.{arith}
use denote.Enum.Declared.{tag_of}
use types.Run.{OneOf}
use Rattle.token.specs.contracts.ColumnValue.{the_type}
use Rattle.token.specs.declared.ColumnValue.TheVariants.{TinyInt, SmallInt, Int, BigInt, NVarChar, NVarCharMax, NVarCharMaxNull, VarCharMax, VarBinaryMax, Null}
use mathlib.Core.List.{List, [], ◌∷◌}
use Prim.Native.Nat.{ℕ, ◌≤◌}
use lib.ListN.{length, drop}
use Rattle.wire.specs.Le.{le_at}
use Rattle.token.specs.Types.{data_type_of}
use Rattle.token.specs.Values.{column_value_of}
use Rattle.token.specs.declared.SqlDataType.{SqlDataType}
use Rattle.std.specs.Prelude.{Option, Some, None}
use Rattle.token.specs.declared.ColumnValue.{ColumnValue}
use Rattle.token.specs.Tokens.{cell, EncodedCell, long, token_bytes}
use Rattle.emission.specs.Emission.{token_piece, value_cell, cell_of, cell_pieces, column_token, column_of, column_piece}
use Rattle.emission.specs.Refusal.{cell_fault}
use Rattle.emission.specs.Runs.{capped}
use Rattle.emission.specs.Inner.{Turned, plain_turn}
use Rattle.emission.proofs.Sizes.{cap-same}
use Rattle.emission.proofs.Turns.{turned-one, goes-here}

-- the cell of a value that is known
pub cell-of : (x : List ℕ) (cs : List (List ℕ)) {r v : ColumnValue} → r ≡ v → value_cell r x cs ≡ value_cell v x cs
cell-of x cs e = rw e

-- the values whose cells are in chunks
no_key : (n : ℕ) → OneOf (5 ∷ 7 ∷ 8 ∷ []) n → (n ≡ 5 → ⊥) → (n ≡ 7 → ⊥) → (n ≡ 8 → ⊥) → ⊥
no_key n (inl e) f g h = f e
no_key n (inr (inl e)) f g h = g e
no_key n (inr (inr e)) f g h = h e

pub chunks-by : (v : ColumnValue) (x : List ℕ) (cs : List (List ℕ)) → OneOf (5 ∷ 7 ∷ 8 ∷ []) (tag_of the_type v) → value_cell v x cs ≡ long cs
chunks-by TinyInt x cs k = absurd (no_key 0 k (λ e. omega (arith, e)) (λ e. omega (arith, e)) (λ e. omega (arith, e)))
chunks-by SmallInt x cs k = absurd (no_key 1 k (λ e. omega (arith, e)) (λ e. omega (arith, e)) (λ e. omega (arith, e)))
chunks-by Int x cs k = absurd (no_key 2 k (λ e. omega (arith, e)) (λ e. omega (arith, e)) (λ e. omega (arith, e)))
chunks-by BigInt x cs k = absurd (no_key 3 k (λ e. omega (arith, e)) (λ e. omega (arith, e)) (λ e. omega (arith, e)))
chunks-by NVarChar x cs k = absurd (no_key 4 k (λ e. omega (arith, e)) (λ e. omega (arith, e)) (λ e. omega (arith, e)))
chunks-by NVarCharMax x cs k = refl
chunks-by NVarCharMaxNull x cs k = absurd (no_key 6 k (λ e. omega (arith, e)) (λ e. omega (arith, e)) (λ e. omega (arith, e)))
chunks-by VarCharMax x cs k = refl
chunks-by VarBinaryMax x cs k = refl
chunks-by Null x cs k = absurd (no_key 9 k (λ e. omega (arith, e)) (λ e. omega (arith, e)) (λ e. omega (arith, e)))

-- the turn of a cell c without chunks, whose bytes are n
pub plain_cell : (s : List ℕ) (next : ℕ) {c d : EncodedCell} {n m : ℕ} → next ≤ length s → d ≡ c → cell_fault c ≡ 0 → length (token_bytes (cell c)) ≡ n → m ≡ capped n
    → Turned (token_piece (cell d) ∷ []) s next (plain_turn m next)
plain_cell s next {c} h e f z g = rw e (turned-one (cell c) s next _ (sym f) (g ∙ cap-same (sym z)) (goes-here s next h))

-- what the value byte of a cell's record makes of it
module _ (p : List ℕ) (cs : List (List ℕ)) {b : ℕ} {r : Option ColumnValue} (e : b ≡ le_at 1 p) (f : r ≡ column_value_of b) where
  pub cell-known : {v : ColumnValue} → r ≡ Some v → cell_pieces p cs ≡ token_piece (cell (value_cell v (drop 1 p) cs)) ∷ []
  unfolding cell_of
  cell-known g = rw (← e, ← f, g)

  pub cell-unknown : r ≡ None → cell_pieces p cs ≡ []
  unfolding cell_of
  cell-unknown g = rw (← e, ← f, g)

-- and the type byte of a column's
module _ (p : List ℕ) {b : ℕ} {r : Option SqlDataType} (e : b ≡ le_at 1 p) (f : r ≡ data_type_of b) where
  pub column-known : {t : SqlDataType} → r ≡ Some t → column_piece p ≡ token_piece (column_token t p) ∷ []
  unfolding column_of
  column-known g = rw (← e, ← f, g)

  pub column-unknown : r ≡ None → column_piece p ≡ []
  unfolding column_of
  column-unknown g = rw (← e, ← f, g)
