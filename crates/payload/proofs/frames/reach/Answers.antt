-- `payload::frames::reach` meets its contract. Assumes nothing.
use mathlib.Core.Path.{sym, ◌∙◌}
use Rattle.payload.proofs.Reach.{reach-nowhere}
use Rattle.payload.proofs.frames.reach.Goals as goal

pub returns-then-not-lies : goal.returns-then-not-lies
returns-then-not-lies c = reach-nowhere _ _ _ (sym c.lies.ensures ∙ c.if-not-lies.true) c.nowhere.ensures
