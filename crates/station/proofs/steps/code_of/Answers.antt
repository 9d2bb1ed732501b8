-- `station::steps::code_of` meets its contract. Assumes nothing.
use borrow.Author.Tests.{lt-ltb, le-ltb}
use mathlib.Core.Path.{sym}
use Rattle.station.specs.Steps.{code_of}
use Rattle.station.proofs.steps.code_of.Goals as goal

pub returns-then-slot-lt-NO_TYPE : goal.returns-then-slot-lt-NO_TYPE
unfolding code_of
returns-then-slot-lt-NO_TYPE c = sym (simp (lt-ltb _ _ c.if-slot-lt-NO_TYPE.true))

pub returns-else-slot-lt-NO_TYPE : goal.returns-else-slot-lt-NO_TYPE
unfolding code_of
returns-else-slot-lt-NO_TYPE c = sym (simp (le-ltb _ _ c.if-slot-lt-NO_TYPE.false))
