-- `station::slots::refused` meets its contract. Assumes nothing.
use Rattle.station.specs.Answer.{number_of}
use native.Mathlib.Omega.{arith}
use Rattle.station.proofs.Signs.{minus-fits, minus}
use Rattle.station.proofs.slots.refused.Goals as goal

pub overflow_sub-result : goal.overflow_sub-result
overflow_sub-result c = minus-fits c.args.number (omega arith)

pub returns : goal.returns
unfolding number_of
returns c = minus c.args.number (omega arith)
