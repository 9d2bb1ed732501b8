-- `emission::chunked_turn` meets its contract. Assumes nothing.
use mathlib.Core.Path.{sym, ap}
use Rattle.std.proofs.lemmas.Result.{err_from_is_err_and}
use Rattle.refusals.specs.Refused.{refused_by}
use Rattle.emission.proofs.Turns.{turned-chunks, chunks-bad}
use Rattle.emission.proofs.chunked_turn.Goals as goal

pub returns-in_err-run : goal.returns-in_err-run
returns-in_err-run c = let a = c.args in
    let p = err_from_is_err_and c.from_residual.result c.from_residual.ensures.1 in
    rw (p.1, p.2) (chunks-bad a.s.now a.next c.run_at-run.result c.run_at-run.ensures c.in_err-run.field-0.0 (ap refused_by (sym c.in_err-run.was)))

pub returns : goal.returns
returns c = let a = c.args in
    rw c.grown.ensures (turned-chunks a.s.now a.next c.run_at-run.result c.run_at-run.ensures c.requires (ap refused_by c.in_ok-run.was))
