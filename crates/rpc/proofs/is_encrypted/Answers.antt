-- `rpc::is_encrypted` meets its contract. Assumes nothing.
use native.Mathlib.Omega.{arith}
use Rattle.packet.proofs.Bit.{masked}
use Rattle.rpc.proofs.is_encrypted.Goals as goal

pub returns : goal.returns
returns c = masked 3 c.args.status (omega arith)
