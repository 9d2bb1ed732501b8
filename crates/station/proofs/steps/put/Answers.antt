-- `station::steps::put` meets its contract. Assumes nothing.
use lib.Seq.{set_out}
use mathlib.Core.Path.{sym}
use native.Mathlib.Omega.{arith}
use Rattle.station.proofs.steps.put.Goals as goal

pub returns-else-at-slots : goal.returns-else-at-slots
returns-else-at-slots c = let a = c.args in sym (set_out a.slots.now a.at a.value (omega arith))
