-- `fit::is_terminal` meets its contract. Assumes nothing.
use borrow.Enum.Refused.{opened}
use Rattle.script.proofs.Stops.{stops}
use Rattle.fit.proofs.Terminal.{terminal-cut, terminal-end, terminal-found}
use Rattle.script.proofs.Walk.{lies}
use native.Mathlib.Omega.{arith}
use mathlib.Core.Path.{sym, ◌∙◌}
use Rattle.fit.proofs.is_terminal.Goals as goal

pub overflow_add-start : goal.overflow_add-start
overflow_add-start c = omega (arith, lies _ _ (sym c.record_at.ensures ∙ c.in-Record.is))

pub returns-in-Cut : goal.returns-in-Cut
returns-in-Cut c = stops c.record_at.ensures (opened c.in-Cut.in-Cut-own.keys1) (terminal-cut _) (terminal-end _)

pub returns-in-Record : goal.returns-in-Record
returns-in-Record c = c.is_some.ensures ∙ terminal-found _ (sym c.record_at.ensures ∙ c.in-Record.is) _ c.error_in.ensures.result_value
