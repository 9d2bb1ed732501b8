-- `login::write_ids` meets its contract. The loop's invariant: with the ids of the features from the place on written after
-- those that are, all are written, and there is room for them. Assumes nothing.
use Rattle.login.proofs.Walk.{stands, ends}
use lib.ListN.{length-set}
use native.Mathlib.Numerals.{add-one}
use Rattle.wire.specs.Over.{overwrite}
use Rattle.login.specs.Features.{ids_of}
use mathlib.Core.Path.{refl}
use native.Mathlib.Omega.{arith}
use Rattle.login.proofs.write_ids.Goals as goal

pub loop-feature-init : goal.loop-feature-init
loop-feature-init c = (refl, omega (arith, c.requires), refl)

pub returns : goal.returns
unfolding overwrite ids_of
returns c = let s = c.args.body.now in
    let none = ends s c.loop-feature.at c.feature_at.ensures.at_value c.in_default.is in
    rw none at c.loop-feature.invariant.2

pub bounds-ids-count : goal.bounds-ids-count
bounds-ids-count c = omega (arith, rw ((stands _ _ c.feature_at.ensures.at_value c.feature_at.ensures.lies c.in-Some.is).turn refl) at c.loop-feature.invariant.1)

pub overflow_add-count : goal.overflow_add-count
overflow_add-count c = omega (arith, rw ((stands _ _ c.feature_at.ensures.at_value c.feature_at.ensures.lies c.in-Some.is).turn refl) at c.loop-feature.invariant.1)

pub loop-feature-smaller : goal.loop-feature-smaller
loop-feature-smaller c = omega (arith, (stands _ _ c.feature_at.ensures.at_value c.feature_at.ensures.lies c.in-Some.is), c.after_part-at.ensures)

pub loop-feature-preserved : goal.loop-feature-preserved
unfolding overwrite ids_of
loop-feature-preserved c = let t = (stands _ _ c.feature_at.ensures.at_value c.feature_at.ensures.lies c.in-Some.is).turn c.after_part-at.ensures in
    let i = c.loop-feature.invariant in (
      simp length-set i.0,
      simp length-set (omega (arith, rw t at i.1)),
      rw add-one (rw t at i.2),
    )
