-- `login::read_features` meets its contract. The loop's invariant: the features from the place on bring the login to what all
-- bring it to, and with those counted are as many as all. Assumes nothing.
use mathlib.Core.List.{foldl}
use Prim.Native.Nat.{◌+◌, ◌-◌, ◌≤◌}
use Rattle.login.specs.Inner.{features_from}
use Rattle.login.specs.Login.{after, head_of}
use mathlib.Core.Path.{◌≡◌}
use lib.ListN.{length}
use Rattle.login.proofs.read_features.Given as goal

abbrev pub invariant-loop-feature : goal.invariant-loop-feature
invariant-loop-feature l = (l.ids ≤ l.at) × (foldl (after l.body) l.login (features_from l.body l.at) ≡ foldl (after l.body) (head_of l.body) (features_from l.body l.first)) × (l.ids + length (features_from l.body l.at) ≡ length (features_from l.body l.first))

abbrev pub decreases-loop-feature : goal.decreases-loop-feature
decreases-loop-feature l = length l.body - l.at
