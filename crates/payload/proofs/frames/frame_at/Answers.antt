-- `payload::frames::frame_at` meets its contract. Assumes nothing.
use mathlib.Core.Path.{◌∙◌}
use Rattle.payload.proofs.Reach.{frame-within, frame-by, at_place}
use Rattle.payload.proofs.frames.frame_at.Goals as goal

pub returns-then-at-frame : goal.returns-then-at-frame
returns-then-at-frame c = let a = c.args in frame-within a.lent.now a.frame a.at c.if-at-frame.true

pub returns : goal.returns
returns c = let a = c.args in c.unwrap_or.ensures ∙ frame-by a.lent.now a.frame a.at _ (c.reach.ensures ∙ at_place a.lent.now a.frame a.at)
