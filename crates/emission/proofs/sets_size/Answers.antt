-- `emission::sets_size` meets its contract. Assumes nothing.
use Rattle.std.proofs.lemmas.Result.{err_from_is_err_and}
use Rattle.emission.proofs.Replies.{sets-bad, sets_then}
use Rattle.emission.proofs.Sizes.{cap-small}
use Rattle.emission.proofs.sets_size.Goals as goal

pub returns-in_err-turn : goal.returns-in_err-turn
returns-in_err-turn c = let a = c.args in
    let p = err_from_is_err_and c.from_residual.result c.from_residual.ensures.1 in
    rw (p.1, p.2) (sets-bad a.s.now a.classification.now a.next a.«before» c.in_err-turn.field-0.0 c.in_err-turn.ensures)

pub sizes_from-requires : goal.sizes_from-requires
sizes_from-requires c = (c.in_ok-turn.ensures.turn.goes.lies, rw c.grown.ensures (cap-small _))

pub returns : goal.returns
returns c = let a = c.args in
    sets_then a.s.now a.classification.now a.next a.«before» c.in_ok-turn.turn c.in_ok-turn.ensures c.sizes_from.result (rw c.grown.ensures at c.sizes_from.ensures)
