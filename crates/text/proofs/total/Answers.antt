-- `text::total` meets its contract. The loop's invariant: what is summed, and the sum over the units that are left, are the sum over
-- the text; at most three are counted for a unit, so the sum fits. Assumes nothing.
use Rattle.text.proofs.Twos.{turn, done, summed, summed-all}
use mathlib.Core.Path.{◌∙◌, ap}
use native.Mathlib.Omega.{arith}
use Rattle.text.specs.Units.{total}
use Rattle.text.proofs.total.Goals as goal

pub overflow_add-n : goal.overflow_add-n
overflow_add-n g c =
    let one = c.requires.1.1 c.unit.result c.count-n.result c.unit.type_inv c.count-n.ensures in omega (arith, one.1)

pub loop-pair-preserved : goal.loop-pair-preserved
loop-pair-preserved g c =
    let one = c.requires.1.1 c.unit.result c.count-n.result c.unit.type_inv c.count-n.ensures in
    let t = turn c.pairs-units.result.now c.loop-pair.pair-index c.loop-pair-test.true c.unit.ensures in
    (omega (arith, one.1), summed g.counted c.loop-pair.n t one.0 c.loop-pair.invariant.1)

pub returns : goal.returns
returns g c =
    summed-all g.counted c.loop-pair.n (done c.pairs-units.result.now c.loop-pair.pair-index c.loop-pair-test.false) c.loop-pair.invariant.1 ∙ ap (total g.counted) c.pairs-units.ensures.value
