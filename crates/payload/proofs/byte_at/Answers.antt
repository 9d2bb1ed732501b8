-- `payload::byte_at` meets its contract. Assumes nothing.
use mathlib.Core.Path.{sym}
use native.Mathlib.Omega.{arith}
use Rattle.wire.proofs.Le.{le-one}
use Rattle.payload.proofs.byte_at.Goals as goal

pub returns : goal.returns
returns c = (sym (le-one _ _ c.requires), omega (arith, c.type_inv.lent c.args.i))
