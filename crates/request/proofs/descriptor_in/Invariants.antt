-- `request::descriptor_in` meets its contract. The loop's invariant: the block has the descriptor that its headers from `at` on have.
-- Assumes nothing.
use Rattle.request.specs.Transaction.{descriptor_in}
use Prim.Native.Nat.{◌-◌, ◌≤◌}
use mathlib.Core.Path.{◌≡◌}
use lib.ListN.{length, drop}
use Rattle.request.proofs.descriptor_in.Given as goal

abbrev pub invariant-loop-at : goal.invariant-loop-at
invariant-loop-at l = (l.at ≤ length l.block) × (descriptor_in 0 (drop l.at l.block) ≡ descriptor_in 0 l.block)

abbrev pub decreases-loop-at : goal.decreases-loop-at
decreases-loop-at l = length l.block - l.at
