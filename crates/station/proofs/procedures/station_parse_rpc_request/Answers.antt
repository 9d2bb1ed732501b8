-- `station::procedures::station_parse_rpc_request` meets its contract. Assumes nothing.
use mathlib.Core.Path.{ap}
use Rattle.station.proofs.Ends.{passed, stopped}
use Rattle.station.specs.Procedures.{rpc_outcome, rpc_call}
use Rattle.station.proofs.procedures.station_parse_rpc_request.Goals as goal

pub returns-in-Ok : goal.returns-in-Ok
unfolding rpc_call
returns-in-Ok c = let w = passed c.args.out.now c.tell_call.type_inv (c.tell_call.ensures.value, c.tell_call.ensures.out_after) (ap rpc_outcome c.in-Ok.ensures) in record { value = w.0; out_after = w.1 }

pub returns-in-Err : goal.returns-in-Err
unfolding rpc_call
returns-in-Err c = let w = stopped c.args.out.now c.refused.type_inv (rw c.number.ensures at c.refused.ensures) (ap rpc_outcome c.in-Err.ensures) in record { value = w.0; out_after = w.1 }
