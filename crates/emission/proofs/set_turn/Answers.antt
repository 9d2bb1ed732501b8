-- `emission::set_turn` meets its contract. Assumes nothing.
use mathlib.Core.Path.{sym, ap, ◌∙◌}
use Rattle.std.proofs.lemmas.Result.{err_from_is_err_and}
use Rattle.refusals.specs.Refused.{refused_by}
use Rattle.emission.proofs.Turns.{turned-bad, set-fault, turned_set}
use Rattle.emission.proofs.set_turn.Goals as goal

pub returns-in_err-run : goal.returns-in_err-run
returns-in_err-run c = let a = c.args in
    let p = err_from_is_err_and c.from_residual.result c.from_residual.ensures.1 in
    rw (p.1, p.2) (turned-bad _ a.s.now a.next c.in_err-run.field-0.0 (ap refused_by (sym c.in_err-run.was) ∙ set-fault a.s.now a.classification.now a.next c.run_at-run.result c.run_at-run.ensures))

pub returns : goal.returns
returns c = let a = c.args in
    rw (c.grown-2.ensures, c.grown.ensures)
    (turned_set a.s.now a.classification.now a.next c.run_at-run.result c.run_at-run.ensures c.requires (ap refused_by c.in_ok-run.was))
