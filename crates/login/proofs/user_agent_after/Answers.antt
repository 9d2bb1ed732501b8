-- `login::user_agent_after` meets its contract. Assumes nothing.
use borrow.Author.Tests.{eq-eqb, ne_eqb}
use mathlib.Core.Path.{sym, ◌∙◌}
use Rattle.login.specs.Rules.{user_agent_after}
use Rattle.login.proofs.user_agent_after.Goals as goal

pub returns-then-feature-ne-FEATURE_EXT_USER_AGENT : goal.returns-then-feature-ne-FEATURE_EXT_USER_AGENT
unfolding user_agent_after
returns-then-feature-ne-FEATURE_EXT_USER_AGENT c = simp (ne_eqb _ _ c.if-feature-ne-FEATURE_EXT_USER_AGENT.true)

pub returns-then-not-is_whole : goal.returns-then-not-is_whole
unfolding user_agent_after
returns-then-not-is_whole c = simp (eq-eqb _ _ c.if-feature-ne-FEATURE_EXT_USER_AGENT.false, sym c.is_whole.ensures ∙ c.if-not-is_whole.true)

pub returns-then-not-is_well_formed : goal.returns-then-not-is_well_formed
unfolding user_agent_after
returns-then-not-is_well_formed c = simp (eq-eqb _ _ c.if-feature-ne-FEATURE_EXT_USER_AGENT.false, sym c.is_whole.ensures ∙ c.if-not-is_whole.false, sym c.is_well_formed.ensures ∙ c.if-not-is_well_formed.true)

pub returns : goal.returns
unfolding user_agent_after
returns c = simp (eq-eqb _ _ c.if-feature-ne-FEATURE_EXT_USER_AGENT.false, sym c.is_whole.ensures ∙ c.if-not-is_whole.false, sym c.is_well_formed.ensures ∙ c.if-not-is_well_formed.false)
