-- `rpc::value_at` meets its contract. Assumes nothing.
use mathlib.Core.Path.{◌≡◌, sym, ap}
use borrow.Author.Rules.{rules}
use Rattle.std.proofs.lemmas.Result.{err_from_is_err_and}
use Rattle.refusals.specs.declared.Refusal.TheVariants.{ParameterCut}
use Rattle.payload.proofs.CodeReads.{then-got, then-not}
use Rattle.cells.proofs.CodeReads.{cell-is, cell-is-not}
use Rattle.rpc.specs.Rpc.{in_value, value_at}
use Rattle.rpc.specs.Answers.{parameter_read}
use Rattle.rpc.proofs.Told.{mapped-ok, mapped-err, renamed-got, renamed-not}
use Rattle.rpc.proofs.value_at.Goals as goal

pub returns-in_err-cell : goal.returns-in_err-cell
unfolding value_at
returns-in_err-cell c = let p = err_from_is_err_and c.from_residual.result c.from_residual.ensures.1 in
    let m = mapped-err _ c.cell_at.result c.map_err.ensures.cases c.in_err-cell.was in
    let is : c.in_err-cell.field-0.0 ≡ ParameterCut = let h = m.2 in search rules in
    rw (p.1, p.2, is) (sym (ap parameter_read (then-not _ (renamed-not in_value (cell-is-not _ c.cell_at.ensures m.1)))))

pub returns : goal.returns
unfolding value_at
returns c = sym (ap parameter_read (then-got _ (renamed-got in_value (cell-is _ c.cell_at.ensures (mapped-ok _ c.cell_at.result c.map_err.ensures.cases c.in_ok-cell.was)))))
