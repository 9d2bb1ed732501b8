-- `login::workflow_after` meets its contract. Assumes nothing.
use borrow.Author.Tests.{eq-eqb, ne_eqb}
use mathlib.Core.Path.{sym, ◌∙◌}
use Rattle.login.specs.Rules.{workflow_after}
use Rattle.login.proofs.workflow_after.Goals as goal

pub returns-then-not-has_options : goal.returns-then-not-has_options
unfolding workflow_after
returns-then-not-has_options c = simp (sym c.has_options.ensures ∙ c.if-not-has_options.true)

pub returns-then-library_in-ne-MSAL : goal.returns-then-library_in-ne-MSAL
unfolding workflow_after
returns-then-library_in-ne-MSAL c = simp (sym c.has_options.ensures ∙ c.if-not-has_options.false, ← c.library_in.ensures, ne_eqb _ _ c.if-library_in-ne-MSAL.true)

pub returns : goal.returns
unfolding workflow_after
returns c = simp (sym c.has_options.ensures ∙ c.if-not-has_options.false, ← c.library_in.ensures, eq-eqb _ _ c.if-library_in-ne-MSAL.false) c.byte_at.ensures
