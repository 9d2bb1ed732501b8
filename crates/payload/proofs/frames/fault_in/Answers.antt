-- `payload::frames::fault_in` meets its contract. Assumes nothing.
use mathlib.Core.Path.{sym, ◌∙◌}
use Rattle.payload.proofs.Walk.{fault-none, fault-next, fault-no-part}
use Rattle.payload.proofs.frames.fault_in.Goals as goal

pub returns-in-Err : goal.returns-in-Err
returns-in-Err c = fault-none _ c.parse.ensures c.in-Err.is

pub returns-then-is_part : goal.returns-then-is_part
returns-then-is_part c = fault-next _ c.parse.ensures c.in-Ok.is (sym c.is_part.ensures ∙ c.if-is_part.true)

pub returns-else-is_part : goal.returns-else-is_part
returns-else-is_part c = fault-no-part _ c.parse.ensures c.in-Ok.is (sym c.is_part.ensures ∙ c.if-is_part.false)
