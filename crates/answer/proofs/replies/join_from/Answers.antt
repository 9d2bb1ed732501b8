-- The packet after one that lies in the lent bytes lies in them too.
use Rattle.std.proofs.Common.{sym}
use Rattle.payload.proofs.Reach.{reach-lies}
use Rattle.answer.proofs.replies.join_from.Goals as goal

pub loop-preserved : goal.loop-preserved
loop-preserved c = reach-lies _ _ _ c.loop.invariant (sym c.in-Ok.ensures)
