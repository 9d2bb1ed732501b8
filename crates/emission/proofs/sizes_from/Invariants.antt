-- `emission::sizes_from` meets its contract. Assumes nothing.
use Prim.Native.Nat.{◌+◌, ◌-◌, ◌≤◌}
use Rattle.emission.specs.Emission.{bytes_in}
use Rattle.emission.specs.Refusal.{fault_in}
use Rattle.emission.specs.Runs.{capped}
use Rattle.emission.proofs.Walks.{left}
use mathlib.Core.Path.{◌≡◌}
use lib.ListN.{length}
use Rattle.emission.proofs.sizes_from.Given as goal

abbrev pub invariant-loop-kind : goal.invariant-loop-kind
invariant-loop-kind l = (l.place ≤ length l.s) × (fault_in (left l.s l.place) ≡ fault_in (left l.s l.at)) × (capped (l.size + length (bytes_in (left l.s l.place))) ≡ capped (l.before + length (bytes_in (left l.s l.at)))) × (l.size ≤ 65536)

abbrev pub decreases-loop-kind : goal.decreases-loop-kind
decreases-loop-kind l = length l.s - l.place
