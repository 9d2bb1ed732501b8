-- `station::slots::answered` meets its contract. The loop's invariant: the first i values are written over the slots that were lent, the rest stands.
-- Assumes nothing.
use mathlib.Core.Path.{◌≡◌, refl}
use native.Mathlib.Nat.{zero-add}
use native.Mathlib.Omega.{arith}
use lib.ListN.{take}
use lib.Seq.{take_all}
use Rattle.wire.specs.Over.{overwrite}
use Rattle.wire.proofs.Over.{over-more}
use Rattle.station.proofs.Ends.{too_few, written}
use Rattle.station.proofs.slots.answered.Goals as goal

pub returns-then-out-values : goal.returns-then-out-values
returns-then-out-values c = let a = c.args in
    let w = too_few a.number a.out.now a.values.now c.if-out-values.true c.refused.type_inv (rw c.number.ensures at c.refused.ensures) in record { value = w.0; out_after = w.1 }

pub loop-i-init : goal.loop-i-init
unfolding overwrite
loop-i-init c = refl

pub loop-i-preserved : goal.loop-i-preserved
loop-i-preserved c = let a = c.args in
    rw c.loop-i.invariant (rw zero-add at (over-more a.values.now a.out.now 0 c.loop-i.i (omega arith)))

pub returns : goal.returns
returns c = let a = c.args in
    let all : take c.loop-i.i a.values.now ≡ a.values.now = take_all c.loop-i.i a.values.now (omega arith) in
    let w = written a.number a.out.now a.values.now c.loop-i.out c.if-out-values.false c.requires (rw all at c.loop-i.invariant) in record { value = w.0; out_after = w.1 }
