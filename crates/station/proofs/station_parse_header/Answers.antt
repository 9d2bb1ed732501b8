-- `station::station_parse_header` meets its contract. Assumes nothing.
use mathlib.Core.Path.{ap}
use Rattle.station.proofs.Ends.{passed, stopped}
use Rattle.station.specs.Calls.{header_outcome, header_call}
use Rattle.station.proofs.station_parse_header.Goals as goal

pub returns-in-Ok : goal.returns-in-Ok
unfolding header_call
returns-in-Ok c = let w = passed c.args.out.now c.tell_header.type_inv (c.tell_header.ensures.value, c.tell_header.ensures.out_after) (ap header_outcome c.in-Ok.ensures) in record { value = w.0; out_after = w.1 }

pub returns-in-Err : goal.returns-in-Err
unfolding header_call
returns-in-Err c = let w = stopped c.args.out.now c.refused.type_inv (rw c.number.ensures at c.refused.ensures) (ap header_outcome c.in-Err.ensures) in record { value = w.0; out_after = w.1 }
