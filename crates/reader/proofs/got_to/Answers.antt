-- `reader::got_to` meets its contract. Assumes nothing.
use mathlib.Core.Path.{sym}
use native.Mathlib.Omega.{arith}
use Rattle.reader.proofs.got_to.Goals as goal

pub overflow_add-result : goal.overflow_add-result
overflow_add-result c = omega (arith, c.saturating_sub.ensures, c.requires)

pub returns : goal.returns
returns c = rw (sym c.frame_at-here.ensures, sym c.saturating_sub.ensures)
