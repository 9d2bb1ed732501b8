-- `reader::token_reader::units_at` meets its contract. Assumes nothing.
use mathlib.Core.Path.{◌≡◌}
use native.Mathlib.Omega.{arith}
use Rattle.payload.proofs.CodeReads.{below_more}
use Rattle.reader.proofs.token_reader.units_at.Goals as goal

pub returns-then-k-eq1 : goal.returns-then-k-eq1
returns-then-k-eq1 c = (rw c.if-k-eq1.true c.u8_at.ensures.0, below_more 1 2 (omega arith) c.u8_at.result c.u8_at.ensures.1)

pub returns-else-k-eq1 : goal.returns-else-k-eq1
returns-else-k-eq1 c = let e : c.args.k ≡ 2 = omega arith in rw e c.u16_at.ensures
