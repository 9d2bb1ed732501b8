-- `login::read_features` meets its contract. The loop's invariant: the features from the place on bring the login to what all
-- bring it to, and with those counted are as many as all. Assumes nothing.
use mathlib.Core.List.{foldl}
use native.Mathlib.Nat.{zero-add, add-zero}
use Rattle.login.proofs.Walk.{stands, ends}
use Rattle.login.specs.declared.Login.{Login}
use Rattle.login.specs.Inner.{features_from}
use Rattle.login.specs.Login.{after}
use mathlib.Core.Path.{ap}
use native.Mathlib.Omega.{arith}
use Rattle.login.proofs.read_features.Goals as goal

pub loop-feature-init : goal.loop-feature-init
loop-feature-init c = let a = c.args in
    let s = a.body.now in
    (omega arith, ap (λ (l : Login). foldl (after s) l (features_from s a.first)) c.head-login.ensures, zero-add _)

pub returns : goal.returns
returns c = let s = c.args.body.now in
    let none = ends s c.loop-feature.at c.feature_at.ensures.at_value c.in_default.is in
    record { login_value = rw none at c.loop-feature.invariant.1; ids_value = rw (none, add-zero) at c.loop-feature.invariant.2 }

pub after-login-requires : goal.after-login-requires
after-login-requires c = omega (arith, (stands _ _ c.feature_at.ensures.at_value c.feature_at.ensures.lies c.in-Some.is))

pub overflow_add-ids : goal.overflow_add-ids
overflow_add-ids c = omega (arith, (stands _ _ c.feature_at.ensures.at_value c.feature_at.ensures.lies c.in-Some.is), c.loop-feature.invariant.0)

pub loop-feature-smaller : goal.loop-feature-smaller
loop-feature-smaller c = omega (arith, (stands _ _ c.feature_at.ensures.at_value c.feature_at.ensures.lies c.in-Some.is), c.after_part-at.ensures)

pub loop-feature-preserved : goal.loop-feature-preserved
loop-feature-preserved c = let l = (stands _ _ c.feature_at.ensures.at_value c.feature_at.ensures.lies c.in-Some.is) in
    let t = l.turn c.after_part-at.ensures in
    let i = c.loop-feature.invariant in (
      omega (arith, i.0, l, c.after_part-at.ensures),
      rw c.after-login.ensures (rw t at i.1),
      omega (arith, rw t at i.2),
    )
