-- `emission::reply_length` meets its contract. Assumes nothing.
use mathlib.Core.Path.{sym}
use Rattle.std.proofs.lemmas.Result.{err_from_is_err_and}
use Rattle.script.proofs.Verdicts.{accepted-none, refused-by}
use Rattle.emission.proofs.Replies.{measure-verdict, measure-fault, measure-long, measure-size}
use Rattle.emission.proofs.reply_length.Goals as goal

pub returns-in_err-verdict : goal.returns-in_err-verdict
returns-in_err-verdict c =
    let p = err_from_is_err_and c.from_residual.result c.from_residual.ensures.1 in
    rw (p.1, p.2) (measure-verdict c.args.s.now c.in_err-verdict.field-0.0 (refused-by c.args.s.now (sym c.in_err-verdict.ensures)))

pub returns-in_err-size : goal.returns-in_err-size
returns-in_err-size c =
    let f = c.from_residual-in_err-size in
    let p = err_from_is_err_and f.result f.ensures.1 in
    rw (p.1, p.2) (measure-fault c.args.s.now (accepted-none c.args.s.now (sym c.in_ok-verdict.ensures)) c.in_err-size.field-0.0 c.in_err-size.ensures)

pub returns-then-size-gt65535 : goal.returns-then-size-gt65535
returns-then-size-gt65535 c = measure-long c.args.s.now (accepted-none c.args.s.now (sym c.in_ok-verdict.ensures)) _ c.in_ok-size.ensures c.if-size-gt65535.true

pub returns : goal.returns
returns c = measure-size c.args.s.now (accepted-none c.args.s.now (sym c.in_ok-verdict.ensures)) _ c.in_ok-size.ensures c.if-size-gt65535.false
