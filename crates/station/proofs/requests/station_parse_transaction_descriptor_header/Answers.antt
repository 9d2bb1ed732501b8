-- `station::requests::station_parse_transaction_descriptor_header` meets its contract. Assumes nothing.
use mathlib.Core.Path.{ap}
use Rattle.station.proofs.Ends.{passed, silent}
use Rattle.station.specs.Requests.{descriptor_outcome, descriptor_call}
use Rattle.station.proofs.requests.station_parse_transaction_descriptor_header.Goals as goal

pub returns-in-Some : goal.returns-in-Some
unfolding descriptor_call
returns-in-Some c = let w = passed c.args.out.now c.answered.type_inv (c.answered.ensures.value, c.answered.ensures.out_after) (ap descriptor_outcome c.in-Some.ensures) in record { value = w.0; out_after = w.1 }

pub returns-in-None : goal.returns-in-None
unfolding descriptor_call
returns-in-None c = let w = silent c.args.out.now (ap descriptor_outcome c.in-None.ensures) in record { value = w.0; out_after = w.1 }
