-- `reader::end_at` meets its contract. Assumes nothing.
use mathlib.Core.Path.{sym}
use borrow.Author.Rules.{rules}
use Rattle.refusals.proofs.Numbers.{cut_alone}
use Rattle.reader.proofs.CodeSteps.{end-left, end-over, end-stopped}
use Rattle.reader.proofs.end_at.Goals as goal

pub returns-in-Ok : goal.returns-in-Ok
returns-in-Ok c = let a = c.args in end-left a.packets.now a.frame a.place (rw c.in-Ok.is at (sym c.reach.ensures))

pub returns-in-Err-Cut : goal.returns-in-Err-Cut
returns-in-Err-Cut c = let a = c.args in end-over a.packets.now a.frame a.place (rw c.in-Err-Cut.is at (sym c.reach.ensures)) (rw c.in-Err-Cut.field-0-is)

pub returns-in-Err : goal.returns-in-Err
returns-in-Err c = let a = c.args in end-stopped a.packets.now a.frame a.place (rw c.in-Err.is at (sym c.reach.ensures)) (λ e. let q = cut_alone c.in-Err.refusal e in search rules)
