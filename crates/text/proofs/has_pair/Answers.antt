-- `text::has_pair` meets its contract. The loop's invariant: a high surrogate stands in the text if one stands among the units that are
-- left. Assumes nothing.
use mathlib.Core.Path.{refl, ap}
use mathlib.Core.List.{map}
use Rattle.text.specs.Surrogates.{surrogate_of, surrogates, any_high, has_pair}
use Rattle.text.proofs.Twos.{turn, done, kind_of, any-first, any-next, any-none}
use Rattle.text.proofs.has_pair.Goals as goal

pub loop-pair-init : goal.loop-pair-init
unfolding has_pair surrogates
loop-pair-init c = ap (λ us. any_high (map surrogate_of us)) c.pairs-units.ensures.value

pub returns-in-High : goal.returns-in-High
returns-in-High c = any-first (kind_of (turn c.pairs-units.result.now c.loop-pair.pair-index c.loop-pair-test.true c.unit.ensures) c.surrogate_of.ensures c.in-High.is) c.loop-pair.invariant

pub loop-pair-preserved : goal.loop-pair-preserved
loop-pair-preserved c = any-next (kind_of (turn c.pairs-units.result.now c.loop-pair.pair-index c.loop-pair-test.true c.unit.ensures) c.surrogate_of.ensures refl) c.in-Plain.is c.loop-pair.invariant

pub returns : goal.returns
returns c = any-none (done c.pairs-units.result.now c.loop-pair.pair-index c.loop-pair-test.false) c.loop-pair.invariant
