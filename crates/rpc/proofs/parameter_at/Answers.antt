-- `rpc::parameter_at` meets its contract. Assumes nothing.
use mathlib.Core.Path.{◌≡◌, sym, ap, ◌∙◌}
use borrow.Author.Rules.{rules}
use Rattle.std.proofs.lemmas.Result.{err_from_is_err_and}
use Rattle.refusals.specs.Refused.{number}
use Rattle.payload.proofs.CodeReads.{then-got, then-not}
use Rattle.rpc.specs.Rpc.{in_metadata, parameter_at}
use Rattle.rpc.specs.Answers.{parameter_read}
use Rattle.rpc.proofs.Told.{mapped-ok, mapped-err, renamed-got, renamed-not, placed-told}
use Rattle.rpc.proofs.parameter_at.Goals as goal

pub returns-in_err-metadata : goal.returns-in_err-metadata
unfolding parameter_at
returns-in_err-metadata c = let p = err_from_is_err_and c.from_residual.result c.from_residual.ensures.1 in
    let m = mapped-err _ c.metadata_at.result c.map_err.ensures.cases c.in_err-metadata.was in
    let is : number c.in_err-metadata.field-0.0 ≡ in_metadata (number m.0) = let h = m.2 in search rules in
    rw (p.1, p.2, is) (sym (ap parameter_read (then-not _ (renamed-not in_metadata (placed-told _ c.metadata_at.ensures m.1)))))

pub returns : goal.returns
unfolding parameter_at
returns c = let m = mapped-ok _ c.metadata_at.result c.map_err.ensures.cases c.in_ok-metadata.was in
    c.value_at.ensures ∙ sym (ap parameter_read (then-got _ (renamed-got in_metadata (placed-told _ c.metadata_at.ensures m))))
