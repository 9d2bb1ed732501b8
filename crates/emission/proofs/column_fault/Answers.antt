-- `emission::column_fault` meets its contract. Assumes nothing.
use mathlib.Core.Path.{sym, ap, ◌∙◌}
use Rattle.token.specs.Names.{name_fault}
use Rattle.emission.specs.Emission.{column_token}
use Rattle.emission.specs.Refusal.{fault_in}
use Rattle.emission.proofs.Sizes.{fault-one}
use Rattle.emission.proofs.Values.{column-known, column-unknown}
use Rattle.emission.proofs.column_fault.Goals as goal

pub returns-in-Some : goal.returns-in-Some
returns-in-Some c = let p = c.args.p.now in
    rw (column-known p c.get_u8.ensures c.data_type_of.ensures c.in-Some.is)
    (c.name_fault.ensures ∙ ap name_fault c.rest_after.ensures ∙ sym (fault-one (column_token c.in-Some.field-0 p)))

pub returns-in-None : goal.returns-in-None
unfolding fault_in
returns-in-None c = let p = c.args.p.now in
    rw (column-unknown p c.get_u8.ensures c.data_type_of.ensures c.in-None.is)
