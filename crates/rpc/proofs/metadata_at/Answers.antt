-- `rpc::metadata_at` meets its contract. Assumes nothing.
use mathlib.Core.Path.{sym, ap, ◌∙◌}
use native.Mathlib.Omega.{arith}
use Rattle.std.proofs.lemmas.Result.{err_from_is_err_and}
use Rattle.payload.proofs.CodeReads.{then-got, then-not, part-is, part-is-not, number_is, number-is-not, below}
use Rattle.cells.proofs.CodeReads.{type-is, type-is-not}
use Rattle.rpc.specs.Rpc.{metadata_at}
use Rattle.rpc.specs.Answers.{placed}
use Rattle.rpc.proofs.metadata_at.Goals as goal

pub returns-in_err-name : goal.returns-in_err-name
unfolding metadata_at
returns-in_err-name c = let p = err_from_is_err_and c.from_residual.result c.from_residual.ensures.1 in
    rw (p.1, p.2) (sym (ap placed (then-not _ (part-is-not _ c.name_at.ensures c.in_err-name.was))))

pub returns-in_err-status : goal.returns-in_err-status
unfolding metadata_at
returns-in_err-status c = let p = err_from_is_err_and c.from_residual-in_err-status.result c.from_residual-in_err-status.ensures.1 in
    rw (p.1, p.2) (sym (ap placed (then-got _ (part-is _ c.name_at.ensures c.in_ok-name.was) ∙ then-not _ (number-is-not _ c.status_at.ensures.0 c.in_err-status.was))))

pub overflow_cast-metadata : goal.overflow_cast-metadata
overflow_cast-metadata c = omega (arith, below 1 c.status_at.ensures.1 c.in_ok-status.was)

pub returns-in_err-read : goal.returns-in_err-read
unfolding metadata_at
returns-in_err-read c = let p = err_from_is_err_and c.from_residual-in_err-read.result c.from_residual-in_err-read.ensures.1 in
    rw (p.1, p.2) (sym (ap placed (then-got _ (part-is _ c.name_at.ensures c.in_ok-name.was) ∙ then-got _ (number_is _ c.status_at.ensures.0 c.in_ok-status.was) ∙ then-not _ (type-is-not _ c.type_at.ensures c.in_err-read.was))))

pub returns : goal.returns
unfolding metadata_at
returns c =
    sym (ap placed (then-got _ (part-is _ c.name_at.ensures c.in_ok-name.was) ∙ then-got _ (number_is _ c.status_at.ensures.0 c.in_ok-status.was) ∙ then-got _ (type-is _ c.type_at.ensures c.in_ok-read.was)))
