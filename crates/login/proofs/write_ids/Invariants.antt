-- `login::write_ids` meets its contract. The loop's invariant: with the ids of the features from the place on written after
-- those that are, all are written, and there is room for them. Assumes nothing.
use Prim.Native.Nat.{◌+◌, ◌-◌, ◌≤◌}
use lib.ListN.{length}
use Rattle.wire.specs.Over.{overwrite}
use Rattle.login.specs.Features.{ids_of}
use Rattle.login.specs.Inner.{features_from}
use mathlib.Core.Path.{◌≡◌}
use Rattle.login.proofs.write_ids.Given as goal

abbrev pub invariant-loop-feature : goal.invariant-loop-feature
invariant-loop-feature l = (length l.ids ≡ length l.initial.ids) × (l.count + length (features_from l.body l.at) ≤ length l.ids) × (overwrite l.ids l.count (ids_of (features_from l.body l.at)) ≡ overwrite l.initial.ids 0 (ids_of (features_from l.body l.first)))

abbrev pub decreases-loop-feature : goal.decreases-loop-feature
decreases-loop-feature l = length l.body - l.at
