-- `wire::u32_from_le_bytes` meets its contract. Assumes nothing.
use native.Mathlib.Omega.{arith}
use Rattle.wire.specs.Le.{le_at}
use Rattle.wire.proofs.u32_from_le_bytes.Goals as goal

pub returns : goal.returns
unfolding le_at
returns c = omega arith
