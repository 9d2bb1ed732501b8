-- `login::after` meets its contract. Assumes nothing.
use mathlib.Core.Path.{sym, ◌∙◌}
use Rattle.login.proofs.Others.{left-as-it-is}
use Rattle.login.proofs.after.Goals as goal

pub returns-then-not-counts : goal.returns-then-not-counts
returns-then-not-counts c = let a = c.args in
    left-as-it-is a.body.now a.login a.feature (sym c.counts.ensures ∙ c.if-not-counts.true)

pub returns : goal.returns
returns c = c.changed.ensures
