-- `token::put_column` meets its contract. Assumes nothing.
use mathlib.Core.List.{[], ◌∷◌}
use Rattle.wire.specs.Fields.{flat, raw}
use Rattle.wire.proofs.Puts.{then, then-fields}
use Rattle.token.specs.Tokens.{token_bytes, type_fields, b_varchar}
use Rattle.token.specs.Types.{type_code, type_length}
use Rattle.token.proofs.put_column.Goals as goal

pub returns : goal.returns
unfolding token_bytes flat
returns c = let a = c.args in
    then-fields (type_fields 0 0 (type_code a.t) (type_length a.t) []) (raw a.collation.now ∷ b_varchar a.name.now [])
    c.put_type_info.ensures
    (then c.put_slice.ensures c.put_b_varchar.ensures)
