-- `wire::get_u16` meets its contract. Assumes nothing.
use mathlib.Core.Path.{◌∙◌}
use lib.ListN.{drop}
use Rattle.wire.proofs.Std.{be-std}
use Rattle.wire.proofs.get_u16.Goals as goal

pub returns : goal.returns
returns c = let a = c.args in rw c.bytes_at.ensures at c.from_be_bytes.ensures ∙ be-std (drop a.at a.s.now)
