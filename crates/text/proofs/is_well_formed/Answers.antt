-- `text::is_well_formed` meets its contract. The loop's invariant: the text is UTF-16 if the surrogates that are left, after a high
-- one where `high` says so, are in pairs. Assumes nothing.
use borrow.Author.Tests.{eq-eqb, ne_eqb}
use Prim.Native.Nat.{◌%◌}
use mathlib.Core.Path.{ap}
use mathlib.Core.List.{map}
use lib.ListN.{length}
use Rattle.text.specs.Surrogates.{paired, surrogates, surrogate_of, well_formed}
use Rattle.text.proofs.Twos.{turn, done, kind_of, ends}
use Rattle.text.proofs.is_well_formed.Goals as goal
use Rattle.text.proofs.is_well_formed.Goals.{in-Plain+else-high, in-High+else-high-2, in-Low+else-not-high}

pub returns-then-s-ne0 : goal.returns-then-s-ne0
unfolding well_formed
returns-then-s-ne0 c = let s = c.args.s.now in rw (ne_eqb (length s % 2) 0 c.if-s-ne0.true)

pub loop-pair-init : goal.loop-pair-init
unfolding well_formed surrogates
loop-pair-init c = let s = c.args.s.now in rw (eq-eqb (length s % 2) 0 c.if-s-ne0.false) (ap (λ us. paired (map surrogate_of us)) c.pairs-units.ensures.value)

pub returns-then-high : goal.returns-then-high
unfolding paired
returns-then-high c = rw (kind_of (turn c.pairs-units.result.now c.loop-pair.pair-index c.loop-pair-test.true c.unit.ensures) c.surrogate_of.ensures c.in-Plain.is, c.if-high.true) at c.loop-pair.invariant

pub returns-then-high-2 : goal.returns-then-high-2
unfolding paired
returns-then-high-2 c = rw (kind_of (turn c.pairs-units.result.now c.loop-pair.pair-index c.loop-pair-test.true c.unit.ensures) c.surrogate_of.ensures c.in-High.is, c.if-high-2.true) at c.loop-pair.invariant

pub returns-then-not-high : goal.returns-then-not-high
unfolding paired
returns-then-not-high c = rw (kind_of (turn c.pairs-units.result.now c.loop-pair.pair-index c.loop-pair-test.true c.unit.ensures) c.surrogate_of.ensures c.in-Low.is, c.if-not-high.true) at c.loop-pair.invariant

pub loop-pair-preserved : goal.loop-pair-preserved
unfolding paired
loop-pair-preserved c =
    elim c.match-surrogate_of.branch [
      | in-Plain+else-high w ↦ rw (w.high-is, w.if-high.false) (rw (kind_of (turn c.pairs-units.result.now c.loop-pair.pair-index c.loop-pair-test.true c.unit.ensures) c.surrogate_of.ensures w.in-Plain.is, w.if-high.false) at c.loop-pair.invariant)
      | in-High+else-high-2 w ↦ rw w.high-is (rw (kind_of (turn c.pairs-units.result.now c.loop-pair.pair-index c.loop-pair-test.true c.unit.ensures) c.surrogate_of.ensures w.in-High.is, w.if-high-2.false) at c.loop-pair.invariant)
      | in-Low+else-not-high w ↦ rw w.high-is (rw (kind_of (turn c.pairs-units.result.now c.loop-pair.pair-index c.loop-pair-test.true c.unit.ensures) c.surrogate_of.ensures w.in-Low.is, w.if-not-high.false) at c.loop-pair.invariant)
    ]

pub returns : goal.returns
returns c = ends c.loop-pair.high (done c.pairs-units.result.now c.loop-pair.pair-index c.loop-pair-test.false) c.loop-pair.invariant
