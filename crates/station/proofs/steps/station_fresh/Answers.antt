-- `station::steps::station_fresh` meets its contract. Assumes nothing.
use mathlib.Core.Path.{refl}
use Rattle.station.specs.Steps.{fresh_call}
use Rattle.station.proofs.Ends.{passed}
use Rattle.station.proofs.steps.station_fresh.Goals as goal

pub returns : goal.returns
unfolding fresh_call
returns c = let w = passed c.args.position.now c.answered.type_inv (c.answered.ensures.value, c.answered.ensures.out_after) refl in record { value = w.0; position_after = w.1 }
