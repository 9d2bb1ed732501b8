-- `payload::worth` meets its contract. Assumes nothing.
use native.Mathlib.Omega.{arith}
use Rattle.payload.proofs.CodeNumbers.{shifted}
use Rattle.payload.proofs.worth.Goals as goal

pub returns : goal.returns
returns c = (shifted _ _ (omega arith) c.requires, omega arith)
