-- `response::faults::fedauth_info_size` meets its contract. Assumes nothing.
use native.Mathlib.Omega.{arith}
use Rattle.response.proofs.Lengths.{info-size}
use Rattle.response.proofs.faults.fedauth_info_size.Goals as goal

pub returns : goal.returns
returns c = let a = c.args in omega (arith, info-size a.sts_url.now a.spn.now)
