-- `fit::check` meets its contract. Assumes nothing.
use Rattle.fit.proofs.Accepts.{refused, accepted}
use mathlib.Core.Path.{sym, ap, ◌∙◌}
use Rattle.std.specs.Prelude.{Ok}
use Rattle.std.proofs.lemmas.Result.{err_from_is_err_and}
use Rattle.fit.proofs.check.Goals as goal

pub returns-in_err-reply_length : goal.returns-in_err-reply_length
returns-in_err-reply_length c =
    let p = err_from_is_err_and c.from_residual.result c.from_residual.ensures.1 in
    rw (p.1, p.2) (refused _ (sym c.in_err-reply_length.ensures))

pub returns : goal.returns
returns c = ap Ok c.first_misfit.ensures ∙ accepted _ (sym c.in_ok-reply_length.ensures)
