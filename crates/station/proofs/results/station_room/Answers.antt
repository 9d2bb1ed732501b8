-- `station::results::station_room` meets its contract. Assumes nothing.
use Rattle.station.proofs.Ends.{handed}
use Rattle.station.proofs.Lengths.{room_fits}
use Rattle.station.specs.Answer.{built_outcome}
use Rattle.station.specs.Results.{room_call}
use Rattle.station.proofs.results.station_room.Goals as goal

pub tell-requires : goal.tell-requires
tell-requires c = let a = c.args in room_fits a.script.now c.room_estimate.ensures

pub returns : goal.returns
unfolding room_call
returns c = handed built_outcome c.tell.type_inv c.room_estimate.ensures c.tell.ensures
