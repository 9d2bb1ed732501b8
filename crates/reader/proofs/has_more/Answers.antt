-- `reader::has_more` meets its contract. Assumes nothing.
use Rattle.packet.specs.Status.{has_bit}
use native.Mathlib.Nat.{div-one}
use Rattle.reader.proofs.has_more.Goals as goal

pub returns : goal.returns
unfolding has_bit
returns c = rw div-one
