-- `script::verdict` meets its contract. Assumes nothing.
use Rattle.script.specs.Records.{records}
use Rattle.script.specs.Verdict.{verdict_from, verdict_of}
use Prim.Native.Nat.{◌-◌, ◌≤◌}
use mathlib.Core.Path.{◌≡◌}
use lib.ListN.{length, drop}
use Rattle.script.proofs.verdict.Given as goal

abbrev pub invariant-loop-kind : goal.invariant-loop-kind
invariant-loop-kind l = (l.at ≤ length l.s) × (verdict_from l.stage (records (drop l.at l.s)) ≡ verdict_of l.s)

abbrev pub decreases-loop-kind : goal.decreases-loop-kind
decreases-loop-kind l = length l.s - l.at
