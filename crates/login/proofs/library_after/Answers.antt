-- `login::library_after` meets its contract. Assumes nothing.
use mathlib.Core.Path.{sym, ◌∙◌}
use Rattle.login.specs.Rules.{library_after}
use Rattle.login.proofs.library_after.Goals as goal

pub returns-then-not-has_options : goal.returns-then-not-has_options
unfolding library_after
returns-then-not-has_options c = simp (sym c.has_options.ensures ∙ c.if-not-has_options.true)

pub returns : goal.returns
unfolding library_after
returns c = simp (sym c.has_options.ensures ∙ c.if-not-has_options.false) c.library_in.ensures
