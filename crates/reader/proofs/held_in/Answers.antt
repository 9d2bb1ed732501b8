-- `reader::held_in` meets its contract. Assumes nothing.
use native.Mathlib.Omega.{arith}
use Prim.Native.Nat.{◌-◌}
use lib.ListN.{get_or-eq_default}
use Rattle.reader.proofs.held_in.Goals as goal

pub returns-then-i-lt-MAX_COLUMNS : goal.returns-then-i-lt-MAX_COLUMNS
returns-then-i-lt-MAX_COLUMNS c = rw (c.saturating_sub-i.ensures, c.are_types-sound.ensures, c.saturating_sub.ensures)

pub returns : goal.returns
returns c = let a = c.args in let t = c.requires in let i = a.at.count - a.at.cells_left in let m = c.saturating_sub-i.ensures in rw (c.are_types-sound.ensures, c.saturating_sub.ensures, get_or-eq_default a.types.now 0 {n = i} (omega (arith, m, t.0)), get_or-eq_default a.limits.now 0 {n = i} (omega (arith, m, t.1)))
