-- `reader::are_types` meets its contract. Assumes nothing.
use mathlib.Core.Path.{◌≡◌, refl, sym, ap, ◌∙◌}
use native.Mathlib.Omega.{arith}
use Rattle.reader.proofs.CodePositions.{held_next, held-past}
use Rattle.reader.specs.Positions.{held}
use borrow.Author.Rules.{rules}
use Rattle.reader.proofs.are_types.Goals as goal

pub returns-then-n-gt-MAX_COLUMNS : goal.returns-then-n-gt-MAX_COLUMNS
returns-then-n-gt-MAX_COLUMNS c = let a = c.args in let t = c.requires in sym (held-past a.n a.types.now a.limits.now (omega (arith, t)) c.if-n-gt-MAX_COLUMNS.true)

pub loop-i-init : goal.loop-i-init
unfolding held
loop-i-init c = (search rules, search rules, refl)

pub loop-i-preserved : goal.loop-i-preserved
loop-i-preserved c = let l = c.loop-i in let a = c.args in (omega arith, l.invariant.1, rw (c.is_type-all.ensures, l.invariant.2) (sym (held_next l.i a.types.now a.limits.now)))

pub returns : goal.returns
returns c = let l = c.loop-i in let a = c.args in let e : l.i ≡ a.n = omega arith in l.invariant.2 ∙ ap (λ k. held k a.types.now a.limits.now) e
