-- `station::steps::type_slot` meets its contract. Assumes nothing.
use mathlib.Core.Path.{sym, ◌∙◌}
use borrow.Author.Tests.{lt-ltb, le-ltb}
use Rattle.station.proofs.steps.type_slot.Goals as goal

pub returns-then-column-lt-MAX_COLUMNS : goal.returns-then-column-lt-MAX_COLUMNS
returns-then-column-lt-MAX_COLUMNS c = c.slot_at.ensures ∙ sym (simp (lt-ltb _ _ c.if-column-lt-MAX_COLUMNS.true))

pub returns : goal.returns
returns c = sym (simp (le-ltb _ _ c.if-column-lt-MAX_COLUMNS.false))
