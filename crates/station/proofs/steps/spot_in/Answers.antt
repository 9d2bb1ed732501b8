-- `station::steps::spot_in` meets its contract. Assumes nothing.
use Rattle.station.specs.Steps.{place_of, position_of}
use Rattle.station.proofs.steps.spot_in.Goals as goal

pub returns : goal.returns
unfolding position_of place_of
returns c = rw (c.slot_at-4.ensures, c.slot_at-3.ensures, c.slot_at-2.ensures, c.place_of.ensures, c.slot_at.ensures, c.slot_at-over.ensures)
