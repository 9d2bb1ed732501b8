-- `emission::column_size` meets its contract. Assumes nothing.
use mathlib.Core.Path.{sym, ◌∙◌}
use native.Mathlib.Omega.{arith}
use Rattle.emission.specs.Emission.{column_token}
use Rattle.emission.proofs.Sizes.{cap-of, cap-same, size-one, size-nothing}
use Rattle.emission.proofs.Values.{column-known, column-unknown}
use Rattle.emission.proofs.column_size.Goals as goal

pub returns-in-Some : goal.returns-in-Some
returns-in-Some c = let p = c.args.p.now in
    rw (column-known p c.get_u8.ensures c.data_type_of.ensures c.in-Some.is)
    (c.typed_size.ensures ∙ cap-same (sym (size-one (column_token c.in-Some.t p))))

pub returns-in-None : goal.returns-in-None
returns-in-None c = let p = c.args.p.now in
    rw (column-unknown p c.get_u8.ensures c.data_type_of.ensures c.in-None.is)
    (sym (cap-of 0 (omega arith)) ∙ cap-same (sym size-nothing))
