-- `round_trip::answer_in` meets its contract. The loop's invariant: the answer after as many steps more as are left is the k-th.
-- Assumes nothing.
use Prim.Native.Nat.{◌-◌}
use mathlib.Core.Path.{◌≡◌}
use Rattle.reader.specs.Positions.{fresh_position}
use Rattle.reader.specs.Reader.{answer_of}
use Rattle.round_trip.proofs.answer_in.Given as goal

abbrev pub invariant-loop-i : goal.invariant-loop-i
invariant-loop-i l = answer_of (l.k - l.i) l.packets l.position ≡ answer_of l.k l.packets fresh_position
