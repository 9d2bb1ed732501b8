-- `payload::frames::walk` meets its contract. Assumes nothing.
use mathlib.Core.Path.{sym, ◌∙◌}
use native.Mathlib.Omega.{arith}
use Rattle.std.proofs.lemmas.Result.{err_from_is_err_and}
use Rattle.payload.proofs.Reach.{reach-begins, reach-again, reach-stops, reach-ends}
use Rattle.payload.proofs.Onto.{onto-by, end-by, lying}
use Rattle.payload.proofs.frames.walk.Goals as goal

pub loop-here-init : goal.loop-here-init
loop-here-init c = reach-begins _ _ _ c.requires

pub returns-in_err-here : goal.returns-in_err-here
returns-in_err-here c =
    let p = err_from_is_err_and c.from_residual.result c.from_residual.ensures.1 in
    rw (p.1, p.2) (reach-stops c.loop-here.invariant (sym c.ends_within.ensures ∙ c.loop-here-test.true) (end-by _ _ c.loop-here.invariant.lies c.onward.ensures c.in_err-here.was))

pub loop-here-smaller : goal.loop-here-smaller
loop-here-smaller c = let o = onto-by _ _ c.loop-here.invariant.lies c.onward.ensures c.in_ok-here.was in omega (arith, o.some, lying _ _ o.lies)

pub loop-here-preserved : goal.loop-here-preserved
loop-here-preserved c = reach-again c.loop-here.invariant (sym c.ends_within.ensures ∙ c.loop-here-test.true) (onto-by _ _ c.loop-here.invariant.lies c.onward.ensures c.in_ok-here.was)

pub returns : goal.returns
returns c = reach-ends c.loop-here.invariant (sym c.ends_within.ensures ∙ c.loop-here-test.false)
