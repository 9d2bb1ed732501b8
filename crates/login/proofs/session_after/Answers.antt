-- `login::session_after` meets its contract. Assumes nothing.
use borrow.Author.Tests.{eq-eqb, ne_eqb}
use Rattle.login.specs.Rules.{session_after}
use Rattle.login.proofs.session_after.Goals as goal

pub returns-then-feature-ne-FEATURE_EXT_SESSION_RECOVERY : goal.returns-then-feature-ne-FEATURE_EXT_SESSION_RECOVERY
unfolding session_after
returns-then-feature-ne-FEATURE_EXT_SESSION_RECOVERY c = simp (ne_eqb _ _ c.if-feature-ne-FEATURE_EXT_SESSION_RECOVERY.true)

pub returns : goal.returns
unfolding session_after
returns c = simp (eq-eqb _ _ c.if-feature-ne-FEATURE_EXT_SESSION_RECOVERY.false)
