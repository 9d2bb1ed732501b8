-- `wire::get_u64_le` meets its contract. Assumes nothing.
use mathlib.Core.Path.{◌∙◌}
use lib.ListN.{drop}
use Rattle.wire.proofs.Std.{le-std}
use Rattle.wire.proofs.get_u64_le.Goals as goal

pub returns : goal.returns
returns c = let a = c.args in rw c.bytes_at-bytes.ensures at c.from_le_bytes.ensures ∙ le-std 7 (drop a.at a.s.now)
