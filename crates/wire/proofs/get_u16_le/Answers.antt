-- `wire::get_u16_le` meets its contract. Assumes nothing.
use mathlib.Core.Path.{◌∙◌}
use lib.ListN.{drop}
use Rattle.wire.proofs.Std.{le-std}
use Rattle.wire.proofs.get_u16_le.Goals as goal

pub returns : goal.returns
returns c = let a = c.args in rw c.bytes_at.ensures at c.from_le_bytes.ensures ∙ le-std 1 (drop a.at a.s.now)
