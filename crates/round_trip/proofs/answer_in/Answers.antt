-- `round_trip::answer_in` meets its contract. The loop's invariant: the answer after as many steps more as are left is the k-th.
-- Assumes nothing.
use Prim.Native.Nat.{◌+◌, ◌-◌}
use mathlib.Core.Path.{◌≡◌}
use native.Mathlib.Omega.{arith}
use Rattle.round_trip.proofs.Running.{stepped, last-answer}
use Rattle.round_trip.proofs.answer_in.Goals as goal

pub loop-i-preserved : goal.loop-i-preserved
loop-i-preserved c = let l = c.loop-i in
    let k = c.args.k in
    let less : k - (l.i + 1) ≡ k - l.i - 1 = omega arith in
    rw less (stepped _ l.position _ (k - l.i) c.step.ensures.next (omega (arith, c.loop-i-test.true)) l.invariant)

pub returns : goal.returns
returns c = let a = c.args in
    let l = c.loop-i in
    last-answer a.buf.now _ l.position a.len (a.k - l.i) a.k c.part_of-packets.ensures c.step-2.ensures.answer (omega (arith, c.loop-i-test.false)) l.invariant
