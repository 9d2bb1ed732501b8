-- `station::slots::answered` meets its contract. The loop's invariant: the first i values are written over the slots that were lent, the rest stands.
-- Assumes nothing.
use mathlib.Core.Path.{◌≡◌}
use lib.ListN.{take}
use Rattle.wire.specs.Over.{overwrite}
use Rattle.station.proofs.slots.answered.Given as goal

abbrev pub invariant-loop-i : goal.invariant-loop-i
invariant-loop-i l = l.out ≡ overwrite l.initial.out 0 (take l.i l.values)
