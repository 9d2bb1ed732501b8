-- `payload::part_at` meets its contract. Assumes nothing.
use mathlib.Core.Path.{sym}
use native.Mathlib.Omega.{arith}
use Rattle.std.proofs.lemmas.Result.{err_from_is_err_and}
use Rattle.payload.proofs.Reach.{part-past, part-reached, part_held, reach-long, held-within}
use Rattle.payload.proofs.part_at.Goals as goal
use Rattle.payload.proofs.part_at.Goals.{then-not-holds+in_ok-reach, else-not-holds}

pub returns-in_err-reach : goal.returns-in_err-reach
returns-in_err-reach c =
    let p = err_from_is_err_and c.from_residual.result c.from_residual.ensures.1 in
    rw (p.1, p.2) (part-past _ _ _ _ (rw c.in_err-reach.was at (sym c.reach.ensures)))

pub overflow_add-result : goal.overflow_add-result
overflow_add-result c = elim c.if-not-holds.branch [
  | then-not-holds+in_ok-reach w ↦ omega (arith, (reach-long _ _ _ (rw w.in_ok-reach.was at (sym w.reach.ensures))).1)
  | else-not-holds w ↦ omega (arith, held-within _ _ _ _ c.holds.ensures w.if-not-holds.false)
]

pub returns : goal.returns
returns c = elim c.if-not-holds.branch [
  | then-not-holds+in_ok-reach w ↦ part-reached _ _ _ _ (rw w.in_ok-reach.was at (sym w.reach.ensures))
  | else-not-holds w ↦ part_held _ _ _ _ c.holds.ensures w.if-not-holds.false
]
