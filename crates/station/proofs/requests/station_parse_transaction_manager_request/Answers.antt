-- `station::requests::station_parse_transaction_manager_request` meets its contract. Assumes nothing.
use mathlib.Core.Path.{ap}
use native.Mathlib.Omega.{arith}
use Rattle.station.proofs.Ends.{told, denied}
use Rattle.station.specs.Requests.{transaction_outcome, transaction_call}
use Rattle.station.proofs.requests.station_parse_transaction_manager_request.Goals as goal

pub returns-in-Ok : goal.returns-in-Ok
unfolding transaction_call
returns-in-Ok c = told _ (omega arith) (ap transaction_outcome c.in-Ok.ensures)

pub returns-in-Err : goal.returns-in-Err
unfolding transaction_call
returns-in-Err c = denied c.refused.type_inv (rw c.number.ensures at c.refused.ensures) (ap transaction_outcome c.in-Err.ensures)
