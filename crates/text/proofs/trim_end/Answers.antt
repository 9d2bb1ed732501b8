-- `text::trim_end` meets its contract. The loop's invariant: of the units that are left as many are kept as of all. Assumes nothing.
use mathlib.Core.Path.{ap}
use Prim.Native.Nat.{◌*◌}
use native.Mathlib.Omega.{arith}
use Rattle.text.specs.Trim.{kept}
use Rattle.text.proofs.Twos.{kept-turn, kept-none}
use Rattle.text.proofs.trim_end.Goals as goal

pub loop-pair-init : goal.loop-pair-init
loop-pair-init c = ap kept c.pairs-units.ensures.value

pub returns-then-not-is_whitespace : goal.returns-then-not-is_whitespace
returns-then-not-is_whitespace c =
    omega (arith, c.in-Some.ensures.cases.1, kept-turn c.in-Some.before.now c.in-Some.pair.now c.in-Some.ensures.cases.0 c.unit.ensures c.is_whitespace.ensures c.if-not-is_whitespace.true c.loop-pair.invariant)

pub loop-pair-preserved : goal.loop-pair-preserved
loop-pair-preserved c = kept-turn c.in-Some.before.now c.in-Some.pair.now c.in-Some.ensures.cases.0 c.unit.ensures c.is_whitespace.ensures c.if-not-is_whitespace.false c.loop-pair.invariant

pub returns : goal.returns
returns c = ap (λ n. 2 * n) (kept-none c.loop-pair.units.now c.in_default.ensures.cases c.loop-pair.invariant)
