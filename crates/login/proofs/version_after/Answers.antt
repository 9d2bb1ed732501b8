-- `login::version_after` meets its contract. Assumes nothing.
use borrow.Author.Tests.{lt-ltb, eq-eqb, ne_eqb}
use Rattle.login.specs.Rules.{version_after}
use Prim.Native.Nat.{◌<◌}
use native.Mathlib.Omega.{arith}
use Rattle.login.proofs.version_after.Goals as goal

pub returns-then-feature-ne-FEATURE_EXT_DATA_CLASSIFICATION : goal.returns-then-feature-ne-FEATURE_EXT_DATA_CLASSIFICATION
unfolding version_after
returns-then-feature-ne-FEATURE_EXT_DATA_CLASSIFICATION c = simp (ne_eqb _ _ c.if-feature-ne-FEATURE_EXT_DATA_CLASSIFICATION.true)

pub returns-then-feature-eq0 : goal.returns-then-feature-eq0
unfolding version_after
returns-then-feature-eq0 c = simp (eq-eqb _ _ c.if-feature-ne-FEATURE_EXT_DATA_CLASSIFICATION.false, c.if-feature-eq0.true)

pub returns : goal.returns
unfolding version_after
returns c = let h : 0 < c.args.feature.part.len = omega arith in simp (eq-eqb _ _ c.if-feature-ne-FEATURE_EXT_DATA_CLASSIFICATION.false, lt-ltb _ _ h) c.byte_at.ensures
