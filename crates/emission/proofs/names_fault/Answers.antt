-- `emission::names_fault` meets its contract. Assumes nothing.
use Rattle.std.proofs.lemmas.Result.{err_from_is_err_and}
use Rattle.emission.proofs.Sizes.{name-bad, name-good}
use Rattle.emission.proofs.names_fault.Goals as goal

pub returns-in_err-name_fault : goal.returns-in_err-name_fault
returns-in_err-name_fault c = let a = c.args in
    let p = err_from_is_err_and c.from_residual.result c.from_residual.ensures.1 in
    rw (p.1, p.2) (name-bad a.server.now a.procedure.now c.in_err-name_fault.field-0.0 c.in_err-name_fault.ensures)

pub returns : goal.returns
returns c = let a = c.args in name-good a.server.now a.procedure.now c.in_ok-name_fault.ensures c.name_fault-2.ensures
