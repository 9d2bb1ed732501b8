-- `station::results::station_room_in_packets` meets its contract. Assumes nothing.
use Rattle.station.proofs.Ends.{handed}
use Rattle.station.proofs.Lengths.{room-in-packets-fits}
use Rattle.station.specs.Answer.{built_outcome}
use Rattle.station.specs.Results.{room_in_packets_call}
use Rattle.station.proofs.results.station_room_in_packets.Goals as goal

pub tell-requires : goal.tell-requires
tell-requires c = let a = c.args in room-in-packets-fits a.size a.script.now c.room_in_packets.ensures

pub returns : goal.returns
unfolding room_in_packets_call
returns c = handed built_outcome c.tell.type_inv c.room_in_packets.ensures c.tell.ensures
