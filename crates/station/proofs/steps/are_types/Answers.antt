-- `station::steps::are_types` meets its contract. Assumes nothing.
use mathlib.Core.Path.{◌≡◌, refl, sym, ap, ◌∙◌}
use native.Mathlib.Omega.{arith}
use Rattle.reader.specs.Positions.{held}
use Rattle.station.proofs.Stepping.{held_to, held-turn, held-fails, held-short, held-over}
use borrow.Author.Rules.{rules}
use Rattle.station.proofs.steps.are_types.Goals as goal

pub returns-then-n-gt-MAX_COLUMNS : goal.returns-then-n-gt-MAX_COLUMNS
returns-then-n-gt-MAX_COLUMNS c = let a = c.args in held-over a.slots.now a.n c.if-n-gt-MAX_COLUMNS.true

pub returns-then-saturating_sub-n : goal.returns-then-saturating_sub-n
returns-then-saturating_sub-n c = let a = c.args in held-short a.slots.now a.n (omega arith) (omega (arith, c.saturating_sub.ensures, c.if-saturating_sub-n.true))

pub loop-i-init : goal.loop-i-init
unfolding held
loop-i-init c = (search rules, search rules, omega (arith, c.saturating_sub.ensures, c.if-saturating_sub-n.false), refl)

pub returns-then-not-is_type : goal.returns-then-not-is_type
returns-then-not-is_type c = let l = c.loop-i in let a = c.args in held-fails a.slots.now a.n l.i (omega arith) (omega (arith, l.invariant.1)) (sym c.is_type.ensures ∙ c.if-not-is_type.true)

pub loop-i-preserved : goal.loop-i-preserved
loop-i-preserved c = let l = c.loop-i in let a = c.args in (omega arith, l.invariant.1, l.invariant.2, held-turn a.slots.now l.i (omega (arith, l.invariant.1)) l.invariant.3 (sym c.is_type.ensures ∙ c.if-not-is_type.false))

pub returns : goal.returns
returns c = let l = c.loop-i in let a = c.args in let e : l.i ≡ a.n = omega arith in sym (ap (held_to a.slots.now) (sym e) ∙ l.invariant.3)
