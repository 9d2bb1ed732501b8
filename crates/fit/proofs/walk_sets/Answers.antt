-- `fit::walk_sets` meets its contract. The loop's invariant: the first misfit of the sets from `at` on is the script's. Assumes nothing.
use borrow.Enum.Refused.{opened}
use Rattle.fit.proofs.SetTurns.{all-cut, all_end, all-wrong, all-onward, all-next}
use Rattle.script.proofs.Stops.{stops}
use Rattle.script.proofs.Walk.{lies}
use mathlib.Core.Path.{refl, sym, ◌∙◌}
use native.Mathlib.Omega.{arith}
use borrow.Author.Rules.{rules}
use Rattle.fit.proofs.walk_sets.Goals as goal

pub loop-start-init : goal.loop-start-init
loop-start-init c = (search rules, refl)

pub returns-in-Cut : goal.returns-in-Cut
returns-in-Cut c = stops c.record_at.ensures (opened c.in-Cut.in-Cut-own.keys1) (all-cut _ _ _ c.loop-start.invariant) (all_end _ _ _ c.loop-start.invariant)

pub overflow_add-next : goal.overflow_add-next
overflow_add-next c = omega (arith, lies _ _ (sym c.record_at.ensures ∙ c.in-Record.is))

pub slice_bounds-walk_set-start : goal.slice_bounds-walk_set-start
slice_bounds-walk_set-start c = omega (arith, lies _ _ (sym c.record_at.ensures ∙ c.in-Record.is))

pub slice_bounds-walk_set-end : goal.slice_bounds-walk_set-end
slice_bounds-walk_set-end c = omega (arith, lies _ _ (sym c.record_at.ensures ∙ c.in-Record.is))

pub returns-in-Err : goal.returns-in-Err
returns-in-Err c = all-wrong _ _ _ c.loop-start.invariant c.walk_set.result (sym c.record_at.ensures ∙ c.in-Record.is) c.walk_set.ensures c.in-Err.is

pub overflow_add-set : goal.overflow_add-set
overflow_add-set c = omega (arith, lies _ _ (sym c.record_at.ensures ∙ c.in-Record.is))

pub loop-start-smaller : goal.loop-start-smaller
loop-start-smaller c = omega (arith, lies _ _ (sym c.record_at.ensures ∙ c.in-Record.is), all-onward _ _ _ c.loop-start.invariant c.walk_set.result (sym c.record_at.ensures ∙ c.in-Record.is) c.walk_set.ensures c.in-Ok.is)

pub loop-start-preserved : goal.loop-start-preserved
loop-start-preserved c = all-next _ _ _ c.loop-start.invariant c.walk_set.result (sym c.record_at.ensures ∙ c.in-Record.is) c.walk_set.ensures c.in-Ok.is
