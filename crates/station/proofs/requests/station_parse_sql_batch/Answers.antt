-- `station::requests::station_parse_sql_batch` meets its contract. Assumes nothing.
use mathlib.Core.Path.{ap}
use Rattle.station.proofs.Ends.{passed, stopped}
use Rattle.station.specs.Requests.{batch_outcome, batch_call}
use Rattle.station.proofs.requests.station_parse_sql_batch.Goals as goal

pub returns-in-Ok : goal.returns-in-Ok
unfolding batch_call
returns-in-Ok c = let w = passed c.args.out.now c.answered_part.type_inv (c.answered_part.ensures.value, c.answered_part.ensures.out_after) (ap batch_outcome c.in-Ok.ensures) in record { value = w.0; out_after = w.1 }

pub returns-in-Err : goal.returns-in-Err
unfolding batch_call
returns-in-Err c = let w = stopped c.args.out.now c.refused.type_inv (rw c.number.ensures at c.refused.ensures) (ap batch_outcome c.in-Err.ensures) in record { value = w.0; out_after = w.1 }
