-- `fit::walk_set` meets its contract. Assumes nothing.
use Rattle.fit.proofs.SetTurns.{set-classified, set-types, set-wrong, set-rows}
use borrow.Author.Tests.{eqb-true, eqb-false}
use mathlib.Core.Path.{sym, ◌∙◌}
use lib.ListN.{length-take}
use native.Mathlib.Omega.{arith}
use Rattle.fit.proofs.walk_set.Goals as goal

pub returns-then-not-is_empty : goal.returns-then-not-is_empty
returns-then-not-is_empty c = let a = c.args in set-classified a.s.now a.set a.classification.now a.from (eqb-false _ 0 (sym c.is_empty.ensures ∙ c.if-not-is_empty.true))

pub slice_bounds-types-end : goal.slice_bounds-types-end
slice_bounds-types-end c = let a = c.args in set-types a.s.now a.set a.classification.now a.from c.walk_columns.new.types (eqb-true _ 0 (sym c.is_empty.ensures ∙ c.if-not-is_empty.false)) c.walk_columns.ensures c.in-Some.is

pub slice_bounds-walk_rows-end : goal.slice_bounds-walk_rows-end
slice_bounds-walk_rows-end c = let a = c.args in let h = set-types a.s.now a.set a.classification.now a.from c.walk_columns.new.types (eqb-true _ 0 (sym c.is_empty.ensures ∙ c.if-not-is_empty.false)) c.walk_columns.ensures c.in-Some.is in omega (arith, length-take c.in-Some.columns.count c.walk_columns.new.types)

pub returns-in_default : goal.returns-in_default
returns-in_default c = let a = c.args in set-wrong a.s.now a.set a.classification.now a.from c.walk_columns.new.types (eqb-true _ 0 (sym c.is_empty.ensures ∙ c.if-not-is_empty.false)) c.walk_columns.ensures c.in_default.is

pub returns : goal.returns
returns c = let a = c.args in set-rows a.s.now a.set a.classification.now a.from c.walk_columns.new.types (eqb-true _ 0 (sym c.is_empty.ensures ∙ c.if-not-is_empty.false)) c.walk_columns.ensures c.walk_rows.result c.in-Some.is c.walk_rows.ensures
