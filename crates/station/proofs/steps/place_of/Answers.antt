-- `station::steps::place_of` meets its contract. Assumes nothing.
use borrow.Author.Tests.{le-leb, lt-leb}
use mathlib.Core.Path.{sym, ◌∙◌}
use Rattle.station.proofs.steps.place_of.Goals as goal

pub returns-then-over-le1 : goal.returns-then-over-le1
returns-then-over-le1 c = c.slot_at.ensures ∙ sym (simp (le-leb _ _ c.if-over-le1.true))

pub returns-else-over-le1 : goal.returns-else-over-le1
returns-else-over-le1 c = sym (simp (lt-leb _ _ c.if-over-le1.false))
