-- `response::faults::login_size` meets its contract. Assumes nothing.
use native.Mathlib.Omega.{arith}
use Rattle.response.proofs.Lengths.{login-ack-size}
use Rattle.response.proofs.faults.login_size.Goals as goal

pub returns-then-login_ack : goal.returns-then-login_ack
returns-then-login_ack c = rw c.if-login_ack.true (omega (arith, login-ack-size), omega arith)
